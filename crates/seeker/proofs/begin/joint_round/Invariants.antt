use Rattle.std.proofs.Common.{◌≡◌, drop, Some}
use Rattle.model.specs.Round.{round, round_told}
use Rattle.seeker.proofs.Fits.{join_round}
use Rattle.seeker.proofs.begin.joint_round.Given as goal

abbrev pub invariant-loop-row : goal.invariant-loop-row
invariant-loop-row g l = join_round (Some l.round) (drop l.row-index l.rows) ≡ join_round (round_told (round (g.L.Load.tasks l.rest))) l.rows
