-- Texts: lines of frames, and the tables that they fill.
use Rattle.std.specs.Prelude.{◌≡◌, ℕ, ◌+◌, min, Bool, true, cond, List, [], ◌∷◌, ◌++◌, length, drop, Some, None, Ok, Err, Option, Result, ◌==◌, nat_le, nat_lt}
use Rattle.model.specs.declared.refusal.Refusal.TheVariants.{TooManyRows, LongText, OpenLine}
use Rattle.rows.specs.declared.bare.PlainRow.{PlainRow}
use Rattle.rows.specs.declared.bare.OpenRow.{OpenRow}
use Rattle.rows.specs.declared.bare.BoundedRow.{BoundedRow}
use Rattle.frames.specs.declared.fault.Fault.{Fault}
use Rattle.frames.specs.declared.fault.Layer.TheVariants.{Text, Table}
use Rattle.frames.specs.declared.frame.TextRow.{TextRow}
use Rattle.frames.specs.declared.frame.TextRow.TheVariants.{Plain, Open, Bounded}
use Rattle.frames.specs.declared.text.Counts.{Counts}
use Rattle.frames.specs.Frames.{fault_at}
use Rattle.frames.specs.Hex.{end_of_line}
use Rattle.frames.specs.Rows.{row_of}

-- the lines of a text, without their ends; what stands after the last end is a line too
abbrev pub longer : ℕ → List (List ℕ) → List (List ℕ)
longer b [] = (b ∷ []) ∷ []
longer b (l ∷ ls) = (b ∷ l) ∷ ls

abbrev pub lines : List ℕ → List (List ℕ)
lines [] = []
lines (b ∷ text) = cond (b == end_of_line) ([] ∷ lines text) (longer b (lines text))

-- a text is empty, or its last line is ended
abbrev pub ended : List ℕ → Bool
ended [] = true
ended (b ∷ []) = b == end_of_line
ended (b ∷ c ∷ text) = ended (c ∷ text)

-- the rows of each kind among some rows, in their order
abbrev pub plain_rows : List TextRow → List PlainRow
plain_rows [] = []
plain_rows (Plain r ∷ rows) = r ∷ plain_rows rows
plain_rows (Open r ∷ rows) = plain_rows rows
plain_rows (Bounded r ∷ rows) = plain_rows rows

abbrev pub open_rows : List TextRow → List OpenRow
open_rows [] = []
open_rows (Plain r ∷ rows) = open_rows rows
open_rows (Open r ∷ rows) = r ∷ open_rows rows
open_rows (Bounded r ∷ rows) = open_rows rows

abbrev pub bounded_rows : List TextRow → List BoundedRow
bounded_rows [] = []
bounded_rows (Plain r ∷ rows) = bounded_rows rows
bounded_rows (Open r ∷ rows) = bounded_rows rows
bounded_rows (Bounded r ∷ rows) = r ∷ bounded_rows rows

abbrev pub counts_of : List TextRow → Counts
counts_of rows = record { plains = length (plain_rows rows); opens = length (open_rows rows); boundeds = length (bounded_rows rows) }

-- the number of a row's kind
abbrev pub of_kind : TextRow → Counts → ℕ
of_kind (Plain r) c = c.plains
of_kind (Open r) c = c.opens
of_kind (Bounded r) c = c.boundeds

-- In line n, one row more than some count in a table of some places, of which 32 are used at most.
unfoldable pub room : ℕ → ℕ → ℕ → Result ℕ Fault
room n places count = cond (nat_lt count (min 32 places)) (Ok (count + 1)) (Err (fault_at TooManyRows n Table))

-- What was read: the rows, in the order of their lines, and the fault that ended the reading.
pub record Outcome : Type 0 where
  pub rows : List TextRow
  pub fault : Option Fault

abbrev pub stopped : List TextRow → Fault → Outcome
stopped done e = record { rows = done; fault = Some e }

-- what comes after a step of reading, unless that refused: then the rows before it stay
abbrev pub go_on : {X : Type 0} → List TextRow → Result X Fault → (X → Outcome) → Outcome
go_on done (Ok x) next = next x
go_on done (Err e) next = stopped done e

-- the rest of a text's lines, after those of some rows, for tables of some places
abbrev pub reads : Counts → List TextRow → List (List ℕ) → Outcome
reads places done [] = record { rows = done; fault = None }
reads places done (text ∷ rest) =
    go_on done (row_of (length done + 1) text) (λ row.
    go_on done (room (length done + 1) (of_kind row places) (of_kind row (counts_of done))) (λ _.
    reads places (done ++ row ∷ []) rest))

unfoldable pub text_test : List ℕ → Result (Unit {0}) Fault
text_test text = cond (nat_le (length text) 16384) (cond (ended text) (Ok tt) (Err (fault_at OpenLine 0 Text))) (Err (fault_at LongText 0 Text))

-- a text, for tables of some places
abbrev pub text_read : Counts → List ℕ → Outcome
text_read places text = go_on [] (text_test text) (λ _. reads places [] (lines text))

abbrev pub answered : Outcome → Result Counts Fault
answered o = elim o.fault [ None ↦ Ok (counts_of o.rows) | Some e ↦ Err e ]

-- a table after some rows were put into its first places
abbrev pub filled : {R : Type 0} → List R → List R → List R
filled rows table = rows ++ drop (length rows) table

abbrev pub places_of : List PlainRow → List OpenRow → List BoundedRow → Counts
places_of p o b = record { plains = length p; opens = length o; boundeds = length b }

-- what a reading answered and left in the tables
pub record Done (o : Outcome) (r : Result Counts Fault) (p : List PlainRow) (op : List OpenRow) (b : List BoundedRow) (p' : List PlainRow) (op' : List OpenRow) (b' : List BoundedRow) : Type 0 where
  pub answer : r ≡ answered o
  pub plain_table : p' ≡ filled (plain_rows o.rows) p
  pub open_table : op' ≡ filled (open_rows o.rows) op
  pub bounded_table : b' ≡ filled (bounded_rows o.rows) b
