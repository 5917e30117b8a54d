-- What bare rows break, the tasks that their numbers spell, and the tasks that they mean.
use Rattle.std.specs.Prelude.{ℕ, ◌+◌, Option}
use Rattle.model.specs.declared.refusal.Refusal.{Refusal}
use Rattle.model.specs.Rows.{plain, settled, bounded}
use Rattle.model.specs.Rules.{plain_fault, plain_task, open_fault, settled_fault, settled_task, bounded_fault, bounded_task}
use Rattle.model.specs.Task.{Task}
use Rattle.rows.specs.declared.bare.PlainRow.{PlainRow}
use Rattle.rows.specs.declared.bare.OpenRow.{OpenRow}
use Rattle.rows.specs.declared.bare.SettledRow.{SettledRow}
use Rattle.rows.specs.declared.bare.BoundedRow.{BoundedRow}

abbrev pub plain_breaks : PlainRow → Option Refusal
plain_breaks r = plain_fault r.spacing r.due r.cost

abbrev pub plain_own : PlainRow → Task
plain_own r = plain r.spacing r.due r.cost

abbrev pub plain_means : PlainRow → Task
plain_means r = plain_task r.spacing r.due r.cost

abbrev pub open_breaks : OpenRow → Option Refusal
open_breaks r = open_fault r.spacing r.first r.wait r.second

-- an open row with a split
abbrev pub with_split : OpenRow → ℕ → SettledRow
with_split r split = record { name = r.name; spacing = r.spacing; first = r.first; wait = r.wait; second = r.second; split = split }

-- the bounded row that a settled row is: its total is the sum of both caps
abbrev pub settled_bounds : SettledRow → BoundedRow
settled_bounds r = record { name = r.name; spacing = r.spacing; first = r.first; second = r.second; total = r.first + r.second; wait = r.wait; split = r.split }

abbrev pub settled_breaks : SettledRow → Option Refusal
settled_breaks r = settled_fault r.spacing r.first r.wait r.second r.split

abbrev pub settled_own : SettledRow → Task
settled_own r = settled r.spacing r.first r.wait r.second r.split

abbrev pub settled_means : SettledRow → Task
settled_means r = settled_task r.spacing r.first r.wait r.second r.split

abbrev pub bounded_breaks : BoundedRow → Option Refusal
bounded_breaks r = bounded_fault r.spacing r.first r.second r.total r.wait r.split

abbrev pub bounded_own : BoundedRow → Task
bounded_own r = bounded r.spacing r.first r.second r.total r.wait r.split

abbrev pub bounded_means : BoundedRow → Task
bounded_means r = bounded_task r.spacing r.first r.second r.total r.wait r.split
