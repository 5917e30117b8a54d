-- What opening a machine answers.
use Rattle.std.specs.Prelude.{◌≡◌, ℕ, List, length, Some, None, Ok, Err, Option, Result, nat_le}
use Rattle.model.specs.declared.refusal.Refusal.{Refusal}
use Rattle.model.specs.declared.refusal.Refusal.TheVariants.{TooManyTasks, LateStart}
use Rattle.model.specs.Rules.{unless}
use Rattle.model.specs.Task.{Task}
use Rattle.model.specs.Machine as model
use Rattle.model.specs.Told.{told_tasks, ToldSuffices}
use Rattle.machine.specs.declared.clock.Core.{Core}
use Rattle.machine.specs.Calls.{tasks_of, state_of}

-- why no machine is opened on the tasks ks at the instant `start`
abbrev pub open_fault : List Task → ℕ → Option Refusal
open_fault ks start = unless TooManyTasks (nat_le (length ks) 32) (unless LateStart (nat_le start 999999999700000) None)

-- a core on the tasks ks as a load tells them, at rest
pub record OpenedOn (ks : List Task) (start : ℕ) (c : Core) : Type 0 where
  pub allowed : open_fault ks start ≡ None
  pub tasks : tasks_of c ≡ told_tasks ks
  pub state : state_of c ≡ model.opened (told_tasks ks) start
  -- so it answers every run of calls as a machine on ks itself
  pub suffices : ToldSuffices ks

abbrev pub Opened : List Task → ℕ → Result Core Refusal → Type 0
Opened ks start (Ok c) = OpenedOn ks start c
Opened ks start (Err e) = open_fault ks start ≡ Some e
