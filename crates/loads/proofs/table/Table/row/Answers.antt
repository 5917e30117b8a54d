use Rattle.std.proofs.Common.{rules}
use Rattle.model.proofs.Asked.Names.{name_row}
use Rattle.model.proofs.Asked.Places.{found_past}
use Rattle.model.proofs.Asked.Rows.{found_row, found_no_row}
use Rattle.loads.proofs.table.Table.row.Goals as goal

pub returns-then-task-ge32 : goal.returns-then-task-ge32
returns-then-task-ge32 g c = record { means = search (rules, found_past); named = search (rules, found_past) }

pub returns-in_err-get : goal.returns-in_err-get
returns-in_err-get g c = record { means = search (rules, found_no_row); named = search (rules, found_no_row) }

pub returns : goal.returns
returns g c = record { means = search (rules, found_row); named = search (rules, name_row) }
