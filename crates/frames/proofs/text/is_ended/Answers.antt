use Rattle.std.proofs.Common.{arith}
use Rattle.frames.proofs.Ends.{ended_last}
use Rattle.frames.proofs.text.is_ended.Goals as goal

pub returns : goal.returns
returns c = grind (arith, ended_last c.args.text.now c.last.result c.last.ensures.value, c.is_none_or.ensures)
