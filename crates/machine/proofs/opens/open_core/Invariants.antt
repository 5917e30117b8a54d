use Rattle.machine.proofs.Opening.{Filled}
use Rattle.machine.proofs.opens.open_core.Given as goal

abbrev pub invariant-loop-i : goal.invariant-loop-i
invariant-loop-i g l = Filled (g.L.Load.tasks l.load) l.n l.entry-items l.i
