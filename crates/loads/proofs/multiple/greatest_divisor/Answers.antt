use Rattle.std.proofs.Common.{sym, ◌∙◌, rules}
use Rattle.model.proofs.Round.Lcm.{gcd_step, gcd_zero}
use Rattle.loads.proofs.multiple.greatest_divisor.Goals as goal

pub loop-y-preserved : goal.loop-y-preserved
loop-y-preserved c = gcd_step c.loop-y.x c.loop-y.y (search rules) ∙ c.loop-y.invariant

pub returns : goal.returns
returns c = sym (gcd_zero c.loop-y.x c.loop-y.y (search rules)) ∙ c.loop-y.invariant
