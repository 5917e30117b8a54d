use Rattle.std.proofs.Common.{◌≡◌, ◌≤◌, map, take}
use Rattle.model.specs.Round.{round}
use Rattle.loads.proofs.table.TableLoad.round.Given as goal

abbrev pub invariant-loop-row : goal.invariant-loop-row
invariant-loop-row g l =
    (l.round ≡ round (map g.R.Bare.task (take l.row-index l.self.rows.now))) × (1 ≤ l.round) × (l.round ≤ 100000)
