use Rattle.model.specs.Asked.{found}
use Rattle.machine.specs.Copies.{Copying}
use Rattle.machine.proofs.copies.copy_pieces.Given as goal

abbrev pub invariant-loop-i : goal.invariant-loop-i
invariant-loop-i g l = Copying (found (g.L.Load.tasks l.load) l.task) l.i l.place-items
