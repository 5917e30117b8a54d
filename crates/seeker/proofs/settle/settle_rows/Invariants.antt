use Rattle.seeker.proofs.Seeks.{Going}
use Rattle.seeker.proofs.settle.settle_rows.Given as goal

abbrev pub invariant-loop-k : goal.invariant-loop-k
invariant-loop-k g l = Going (g.J.Judge.accepts l.judge) (g.S.Splitter.offers l.splitter) l.rows l.initial.places l.k l.places
