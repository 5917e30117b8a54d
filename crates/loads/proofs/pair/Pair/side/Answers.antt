use Rattle.std.proofs.Common.{arith}
use Rattle.model.proofs.Asked.Places.{found_front, found_back, found_past}
use Rattle.loads.proofs.pair.Pair.side.Goals as goal

pub returns-then-task-before : goal.returns-then-task-before
returns-then-task-before g c = (omega arith, found_front _ _ _ (omega arith))

pub returns-then-task-lt32 : goal.returns-then-task-lt32
returns-then-task-lt32 g c = (omega arith, found_back _ _ _ _ (omega arith) (omega arith) (omega arith))

pub returns-else-task-lt32 : goal.returns-else-task-lt32
returns-else-task-lt32 g c = found_past _ _ (omega arith)
