-- The judge of rows of any numbers: those that are no table do not pass.
use Rattle.std.specs.Prelude.{Bool, false, List, Some, None, Option}
use Rattle.model.specs.declared.refusal.Refusal.{Refusal}
use Rattle.model.specs.Rules.{table_fault}
use Rattle.model.specs.Task.{Task}
use Rattle.rows.specs.Bare.{settled_breaks}
use Rattle.rows.specs.declared.bare.SettledRow.{SettledRow}
use Rattle.seeker.specs.Sought.{passes}

abbrev pub if_table : Option Refusal → Bool → Bool
if_table None b = b
if_table (Some e) b = false

abbrev pub judged : List Task → List SettledRow → Bool
judged rest rows = if_table (table_fault settled_breaks rows) (passes rest rows)
