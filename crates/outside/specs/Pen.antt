-- The tasks of a pen: a clock of one piece, and strokes of three pieces.
use Rattle.std.specs.Prelude.{ℕ, ◌+◌, List, [], ◌∷◌, drop}
use Rattle.std.proofs.Common.{arith}
use Rattle.model.specs.Task.{Piece, Task, Lawful, AllLawful}
use Rattle.model.specs.Rows.{From, piece, plain}

-- the pieces of a stroke from the third on, from the second on, and all
abbrev pub stored : ℕ → List Piece
stored c = piece 40 60 c ∷ []

abbrev pub drawn : ℕ → List Piece
drawn c = piece 20 30 c ∷ stored c

abbrev pub sampled : ℕ → List Piece
sampled c = piece 0 10 c ∷ drawn c

-- the pieces of a stroke from number k on, counted from 0
abbrev pub pieces_from : ℕ → ℕ → List Piece
pieces_from k c = drop k (sampled c)

abbrev pub stroke_task : ℕ → Task
stroke_task c = record { spacing = 60; total = c + (c + c); pieces = sampled c }

abbrev pub clock_task : ℕ → Task
clock_task c = plain 20 20 c

abbrev pub pen_tasks : ℕ → ℕ → List Task
pen_tasks clock stroke = clock_task clock ∷ stroke_task stroke ∷ []

pub stroke_lawful : (c : ℕ) → From 1 c 5 → Lawful (stroke_task c)
stroke_lawful c h = omega arith

pub pen_lawful : (clock stroke : ℕ) → From 1 clock 20 × From 1 stroke 5 → AllLawful (pen_tasks clock stroke)
pen_lawful clock stroke h = (omega arith, (stroke_lawful stroke h.1, tt))
