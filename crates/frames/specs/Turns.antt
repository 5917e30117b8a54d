-- What one row does to the tables and their counts.
use Rattle.std.specs.Prelude.{ℕ, min, cond, List, length, Ok, Result, nat_lt, slice_set}
use Rattle.rows.specs.declared.bare.PlainRow.{PlainRow}
use Rattle.rows.specs.declared.bare.OpenRow.{OpenRow}
use Rattle.rows.specs.declared.bare.BoundedRow.{BoundedRow}
use Rattle.frames.specs.declared.fault.Fault.{Fault}
use Rattle.frames.specs.declared.frame.TextRow.{TextRow}
use Rattle.frames.specs.declared.frame.TextRow.TheVariants.{Plain, Open, Bounded}
use Rattle.frames.specs.declared.text.Counts.{Counts}
use Rattle.frames.specs.Frames.{◌then◌}
use Rattle.frames.specs.Texts.{room}

unfoldable pub stored : {R : Type 0} → List R → ℕ → R → List R
stored table count row = cond (nat_lt count (min 32 (length table))) (slice_set table count row) table

-- the counts, unless there is no room for the row
abbrev pub counts_after : ℕ → TextRow → List PlainRow → List OpenRow → List BoundedRow → Counts → Result Counts Fault
counts_after n (Plain row) p o b c = room n (length p) c.plains then (λ k. Ok (record { plains = k; opens = c.opens; boundeds = c.boundeds }))
counts_after n (Open row) p o b c = room n (length o) c.opens then (λ k. Ok (record { plains = c.plains; opens = k; boundeds = c.boundeds }))
counts_after n (Bounded row) p o b c = room n (length b) c.boundeds then (λ k. Ok (record { plains = c.plains; opens = c.opens; boundeds = k }))

abbrev pub plain_after : TextRow → Counts → List PlainRow → List PlainRow
plain_after (Plain row) c table = stored table c.plains row
plain_after (Open row) c table = table
plain_after (Bounded row) c table = table

abbrev pub open_after : TextRow → Counts → List OpenRow → List OpenRow
open_after (Plain row) c table = table
open_after (Open row) c table = stored table c.opens row
open_after (Bounded row) c table = table

abbrev pub bounded_after : TextRow → Counts → List BoundedRow → List BoundedRow
bounded_after (Plain row) c table = table
bounded_after (Open row) c table = table
bounded_after (Bounded row) c table = stored table c.boundeds row
