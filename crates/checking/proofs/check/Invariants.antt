use Rattle.std.proofs.Common.{◌≡◌, ◌-◌, ◌*◌, ◌≤◌, take}
use Rattle.model.specs.Told.{told_demand_of_all}
use Rattle.model.specs.Verdict.{first_over}
use Rattle.checking.proofs.check.Given as goal

abbrev pub invariant-loop-task : goal.invariant-loop-task
invariant-loop-task g l = (l.demand ≡ told_demand_of_all (take l.task (g.L.Load.tasks l.load)) l.length) × (l.demand ≤ l.task * 1000000000000000)

abbrev pub invariant-lengths : goal.invariant-lengths
invariant-lengths g l = (1 ≤ l.length) × (l.length ≤ 2 * l.round) × (first_over (g.L.Load.tasks l.load) (2 * l.round - l.length) l.length ≡ first_over (g.L.Load.tasks l.load) (2 * l.round - 1) 1)

abbrev pub decreases-lengths : goal.decreases-lengths
decreases-lengths g l = 2 * l.round - l.length
