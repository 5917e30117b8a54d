use Rattle.std.proofs.Common.{◌≡◌, take, drop}
use Rattle.seeker.specs.Sought.{candidates, first_passing}
use Rattle.seeker.proofs.settle.settle_row.Given as goal

abbrev pub invariant-loop-n : goal.invariant-loop-n
invariant-loop-n g l =
    (l.places ≡ l.initial.places)
    × (first_passing (g.J.Judge.accepts l.judge) (take l.k l.initial.places) l.row.row (drop l.n-iterator.start (candidates (g.S.Splitter.offers l.splitter) l.row.row))
    ≡ first_passing (g.J.Judge.accepts l.judge) (take l.k l.initial.places) l.row.row (candidates (g.S.Splitter.offers l.splitter) l.row.row))
