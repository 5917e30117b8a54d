use Rattle.std.proofs.Common.{arith}
use Rattle.outside.proofs.Windows.{caps_due}
use Rattle.outside.proofs.pen.Pen.caps_by.Goals as goal

pub returns-clause-value : goal.returns-clause-value
returns-clause-value c = caps_due _ _ _ _ _ (grind (arith, c.if-e-lt10.branch)) c.saturating_sub.ensures
