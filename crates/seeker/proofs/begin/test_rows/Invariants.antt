use Rattle.std.proofs.Common.{◌≡◌, drop}
use Rattle.model.specs.Rules.{first_fault}
use Rattle.rows.specs.Bare.{open_breaks}
use Rattle.seeker.proofs.begin.test_rows.Given as goal

abbrev pub invariant-loop-row : goal.invariant-loop-row
invariant-loop-row l = first_fault open_breaks (drop l.row-index l.rows) ≡ first_fault open_breaks l.rows
