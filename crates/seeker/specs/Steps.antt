-- What the steps of a seek do, one row at a time.
use Rattle.std.specs.Prelude.{ℕ, List, Some, None, Err, Option, slice_set}
use Rattle.model.specs.declared.refusal.Refusal.TheVariants.{NoSplit}
use Rattle.model.specs.Verdict.{Verdict, accepted}
use Rattle.rows.specs.declared.bare.SettledRow.{SettledRow}

-- the answer for a row of this name, by the row kept, if any
abbrev pub if_kept : ℕ → Option SettledRow → Verdict
if_kept name None = Err (NoSplit name)
if_kept name (Some r) = accepted

-- the places once the row kept, if any, is in place k
abbrev pub placed : Option SettledRow → List SettledRow → ℕ → List SettledRow
placed None places k = places
placed (Some r) places k = slice_set places k r
