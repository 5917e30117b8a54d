use Rattle.std.proofs.Common.{arith}
use Rattle.std.proofs.lemmas.List.{length-set}
use Rattle.lines.proofs.Written.{line_more}
use Rattle.lines.proofs.line.Line.of.Goals as goal

pub loop-i-preserved : goal.loop-i-preserved
loop-i-preserved c = (
  simp length-set c.loop-i.invariant.0,
  line_more c.loop-i.text c.args.bytes.now c.loop-i.i _ _ (omega (arith, c.loop-i.invariant.0, c.requires)) (omega arith) c.loop-i.invariant.1 c.digit_of.ensures c.digit_of-in-loop-i.ensures,
)
