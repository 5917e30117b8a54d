use Rattle.std.proofs.Common.{◌≡◌, map, take, drop}
use Rattle.model.specs.Rules.{first_fault}
use Rattle.loads.proofs.table.Table.new.Given as goal

abbrev pub invariant-loop-row : goal.invariant-loop-row
invariant-loop-row g l = (first_fault g.R.Kind.fault (drop l.row-index l.rows) ≡ first_fault g.R.Kind.fault l.rows) × (map g.R.Bare.task (take l.row-index l.rows) ≡ map g.R.Bare.own (take l.row-index l.rows))
