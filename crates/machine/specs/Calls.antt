-- The machine's core as the model sees it, and what its calls answer.
use Rattle.std.specs.Prelude.{◌≡◌, ℕ, List, map, take, Some, None, Ok, Err, Option, Result}
use Rattle.model.specs.declared.refusal.Refusal.{Refusal}
use Rattle.model.specs.Task as task
use Rattle.model.specs.Machine as model
use Rattle.machine.specs.declared.answer.Miss.{Miss}
use Rattle.machine.specs.declared.answer.Ticked.{Ticked}
use Rattle.machine.specs.declared.answer.Ticked.TheVariants.{Ran, Idle, Missed}
use Rattle.machine.specs.declared.clock.Core.{Core}
use Rattle.machine.specs.Views.{task_of, progress_of}

abbrev pub miss_of : Option Miss → Option model.Miss
miss_of None = None
miss_of (Some m) = Some (record { task = m.task; piece = m.piece; instant = m.instant })

abbrev pub tasks_of : Core → List task.Task
tasks_of c = map task_of (take c.table.count c.table.entries)

abbrev pub state_of : Core → model.State
state_of c = record { now = c.now; miss = miss_of c.miss; progress = map progress_of (take c.table.count c.table.entries) }

-- what a wake or an end answered
abbrev pub answered : {E : Type 0} → Result E Refusal → model.Answer
answered (Ok _) = model.done
answered (Err e) = model.refused e

-- what a tick answered
abbrev pub ticked : Result Ticked Refusal → model.Answer
ticked (Ok (Ran task piece)) = model.ran task piece
ticked (Ok Idle) = model.idle
ticked (Ok (Missed m)) = model.missed m.task m.piece m.instant
ticked (Err e) = model.refused e

abbrev pub stepped : model.Answer → model.State → model.Step
stepped a s = record { answer = a; after = s }

-- a wake of task i is refused with e, and so is an end
abbrev pub Refuses : Core → ℕ → Refusal → Type 0
Refuses c i e = (stepped (model.refused e) (state_of c) ≡ model.do_wake (tasks_of c) (state_of c) i) × (stepped (model.refused e) (state_of c) ≡ model.do_end (tasks_of c) (state_of c) i)
