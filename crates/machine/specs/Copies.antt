-- What is copied out of a load: each task as the load tells it.
use Rattle.std.specs.Prelude.{◌≡◌, ℕ, ◌≤◌, List, map, length, take, Some, None, Option}
use Rattle.model.specs.Task as task
use Rattle.model.specs.Asked.{told}
use Rattle.machine.specs.declared.piece.Piece.{Piece}
use Rattle.machine.specs.declared.numbers.Numbers.{Numbers}
use Rattle.machine.specs.Views.{pieces_of}

abbrev pub copied_piece : task.Piece → Piece
copied_piece p = record { ready = p.ready; cap = told p.cap; due = p.due }

abbrev pub numbers_task : Numbers → task.Task
numbers_task n = record { spacing = n.spacing; total = n.total; pieces = pieces_of n }

-- the first `count` of ps are the task's pieces
abbrev pub Copied : Option task.Task → ℕ → List Piece → Type 0
Copied None count ps = Unit {0}
Copied (Some k) count ps = (length ps ≡ 4) × (count ≡ length k.pieces) × (take count ps ≡ map copied_piece k.pieces)

-- the first `count` of the task's pieces are copied
abbrev pub Copying : Option task.Task → ℕ → List Piece → Type 0
Copying None count ps = Unit {0}
Copying (Some k) count ps = (length ps ≡ 4) × (count ≤ length k.pieces) × (take count ps ≡ map copied_piece (take count k.pieces))
