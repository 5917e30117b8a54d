-- What the table's entries mean: tasks and their progress.
use Rattle.std.specs.Prelude.{◌≡◌, ℕ, zero, suc, ◌+◌, ◌<◌, ◌≤◌, Bool, true, false, List, [], ◌∷◌, map, slice_index_or, take, drop, None, refl}
use Rattle.std.proofs.Common.{arith, lit≤}
use Rattle.model.specs.Task as task
use Rattle.model.specs.Machine as model
use Rattle.machine.specs.declared.piece.Piece.{Piece}
use Rattle.machine.specs.declared.numbers.Numbers.{Numbers}
use Rattle.machine.specs.Pieces.{no_piece}
use Rattle.machine.specs.declared.entry.Phase.{Phase}
use Rattle.machine.specs.declared.entry.Phase.TheVariants.{Rest, Ready, Held}
use Rattle.machine.specs.declared.entry.Entry.{Entry}

abbrev pub piece_at : Numbers → ℕ → Piece
piece_at n i = slice_index_or n.pieces i no_piece

-- a lawful task that no load has, for places past the end
abbrev pub blank_piece : Piece
blank_piece = record { ready = 0; cap = 1; due = 1 }

abbrev pub blank_pieces : List Piece
blank_pieces = blank_piece ∷ blank_piece ∷ blank_piece ∷ blank_piece ∷ []

abbrev pub blank_task : Numbers
blank_task = record {
  spacing = 1;
  total = 1;
  count = 1;
  pieces = blank_pieces;
  long = refl;
  slow = lit≤ tt;
  some = lit≤ tt;
  few = lit≤ tt;
  starts = refl;
  rises = λ k h. elim k as (λ k. k < 1 → (slice_index_or blank_pieces k no_piece).ready < (slice_index_or blank_pieces k no_piece).due) [ zero ↦ λ _. lit≤ tt | suc k ↦ λ l. absurd (omega arith) ] h;
  near = λ k h. elim k as (λ k. k < 1 → (slice_index_or blank_pieces k no_piece).due ≤ 10000) [ zero ↦ λ _. lit≤ tt | suc k ↦ λ l. absurd (omega arith) ] h;
  caps = λ k h. elim k as (λ k. k < 1 → (slice_index_or blank_pieces k no_piece).cap ≤ 1000000000000000) [ zero ↦ λ _. lit≤ tt | suc k ↦ λ l. absurd (omega arith) ] h;
}

abbrev pub blank : Entry
blank = record { task = blank_task; last = None; before = 0; phase = Rest }

abbrev pub piece_of : Piece → task.Piece
piece_of p = record { ready = p.ready; due = p.due; cap = p.cap }

abbrev pub pieces_of : Numbers → List task.Piece
pieces_of n = map piece_of (take n.count n.pieces)

abbrev pub task_of : Entry → task.Task
task_of e = record { spacing = e.task.spacing; total = e.task.total; pieces = pieces_of e.task }

abbrev pub left_of : List task.Piece → Phase → List task.Piece
left_of ps Rest = []
left_of ps (Ready p r) = drop p ps
left_of ps (Held p) = drop p ps

abbrev pub ran_of : Phase → ℕ
ran_of Rest = 0
ran_of (Ready p r) = r
ran_of (Held p) = 0

abbrev pub progress_of : Entry → model.Progress
progress_of e = record { last = e.last; left = left_of (pieces_of e.task) e.phase; ran_now = ran_of e.phase; ran_before = e.before }

-- the piece at work, counted from 0
abbrev pub piece_in : Phase → ℕ
piece_in Rest = 0
piece_in (Ready p r) = p
piece_in (Held p) = p

-- a job is open
abbrev pub works : Phase → Bool
works Rest = false
works (Ready p r) = true
works (Held p) = true

-- the piece at work, counted from 1
abbrev pub piece_told : Phase → ℕ
piece_told f = piece_in f + 1

-- an entry as the machine opens with
abbrev pub Resting : Entry → Type 0
Resting e = (e.phase ≡ Rest) × (e.last ≡ None) × (e.before ≡ 0)
