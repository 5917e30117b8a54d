-- What an event makes of an entry, and what holds of every entry.
use Rattle.std.specs.Prelude.{ℕ, ◌+◌, ◌-◌, ◌*◌, ◌<◌, ◌≤◌, min, cond, Some, Option, ◌==◌, nat_le}
use Rattle.model.specs.Machine as model
use Rattle.machine.specs.declared.numbers.Numbers.{Numbers}
use Rattle.machine.specs.declared.entry.Phase.{Phase}
use Rattle.machine.specs.declared.entry.Phase.TheVariants.{Rest, Ready, Held}
use Rattle.machine.specs.declared.entry.Event.{Event}
use Rattle.machine.specs.declared.entry.Event.TheVariants.{Wake, End, Tick, Release}
use Rattle.machine.specs.declared.entry.Entry.{Entry}
use Rattle.machine.specs.Views.{piece_at, ran_of, piece_in}
use Rattle.machine.specs.Keys.{held_key, due_by}

-- at most so many pieces of the job are finished
abbrev pub finished_in : Phase → ℕ
finished_in Rest = 4
finished_in (Ready p r) = p
finished_in (Held p) = p

-- the piece at work is one of the task's, and no count of ticks outgrows 10^15 for each piece
abbrev pub GoodPhase : Numbers → ℕ → Phase → Type 0
GoodPhase n before f = (piece_in f < n.count) × (ran_of f < 1000000000000000) × (before ≤ finished_in f * 1000000000000000)

-- and the last wake was no later than 10^15
abbrev pub GoodEntry : Entry → Type 0
GoodEntry e = GoodPhase e.task e.before e.phase × (model.since e.last 0 ≤ 1000000000000000)

-- the ticks that piece p may run
abbrev pub limit_at : Numbers → ℕ → ℕ → ℕ
limit_at n before p = min (piece_at n p).cap (n.total - before)

-- how the job goes on with piece p at the instant `now`
abbrev pub followed : Numbers → Option ℕ → ℕ → ℕ → Phase
followed n last p now =
    cond (p == n.count) Rest
    (cond (nat_le (model.since last (piece_at n p).ready) now) (Ready p 0) (Held p))

abbrev pub moved_in : Entry → Phase → Event → Entry
moved_in e Rest (Wake now) = record { task = e.task; last = Some now; before = 0; phase = Ready 0 0 }
moved_in e Rest (End now) = e
moved_in e Rest (Tick now) = e
moved_in e Rest Release = e
moved_in e (Ready p r) (Wake now) = e
moved_in e (Ready p r) (End now) = record { task = e.task; last = e.last; before = e.before + r; phase = followed e.task e.last (p + 1) now }
moved_in e (Ready p r) (Tick now) =
    cond (nat_le (limit_at e.task e.before p) (r + 1))
    (record { task = e.task; last = e.last; before = e.before + (r + 1); phase = followed e.task e.last (p + 1) now })
    (record { task = e.task; last = e.last; before = e.before; phase = Ready p (r + 1) })
moved_in e (Ready p r) Release = e
moved_in e (Held p) (Wake now) = e
moved_in e (Held p) (End now) = e
moved_in e (Held p) (Tick now) = e
moved_in e (Held p) Release = record { task = e.task; last = e.last; before = e.before; phase = Ready p 0 }

abbrev pub moved : Entry → Event → Entry
moved e ev = moved_in e e.phase ev

-- the instant that an event brings in
abbrev pub event_at : Event → ℕ
event_at (Wake now) = now
event_at (End now) = 0
event_at (Tick now) = 0
event_at Release = 0

-- a held piece whose ready instant has come by `at` becomes ready
abbrev pub released : ℕ → Entry → Entry
released at e = cond (due_by at (held_key e)) (moved e Release) e
