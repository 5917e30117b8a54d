-- The instants by which an entry's piece stands in the line of the ready or of the held pieces.
use Rattle.std.specs.Prelude.{ℕ, Bool, true, false, Some, None, Option, nat_le, nat_lt}
use Rattle.model.specs.Machine as model
use Rattle.machine.specs.declared.numbers.Numbers.{Numbers}
use Rattle.machine.specs.declared.entry.Phase.{Phase}
use Rattle.machine.specs.declared.entry.Phase.TheVariants.{Rest, Ready, Held}
use Rattle.machine.specs.declared.entry.Entry.{Entry}
use Rattle.machine.specs.Views.{piece_at}

abbrev pub ready_in : Numbers → Option ℕ → Phase → Option ℕ
ready_in n last Rest = None
ready_in n last (Ready p r) = Some (model.since last (piece_at n p).due)
ready_in n last (Held p) = None

abbrev pub held_in : Numbers → Option ℕ → Phase → Option ℕ
held_in n last Rest = None
held_in n last (Ready p r) = None
held_in n last (Held p) = Some (model.since last (piece_at n p).ready)

-- the due instant of a ready piece
abbrev pub ready_key : Entry → Option ℕ
ready_key e = ready_in e.task e.last e.phase

-- the ready instant of a held piece
abbrev pub held_key : Entry → Option ℕ
held_key e = held_in e.task e.last e.phase

-- the instant, if there is one, has come by `at`
abbrev pub due_by : ℕ → Option ℕ → Bool
due_by at None = false
due_by at (Some a) = nat_le a at

-- a ready piece's instant has come, and a held one's has not
abbrev pub timely_in : ℕ → Numbers → Option ℕ → Phase → Bool
timely_in now n last Rest = true
timely_in now n last (Ready p r) = nat_le (model.since last (piece_at n p).ready) now
timely_in now n last (Held p) = nat_lt now (model.since last (piece_at n p).ready)

abbrev pub timely : ℕ → Entry → Bool
timely now e = timely_in now e.task e.last e.phase
