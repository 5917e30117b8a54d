use Rattle.std.proofs.Common.{arith}
use Rattle.machine.proofs.Lined.{takes}
use Rattle.machine.proofs.line.Line.take.Goals as goal

pub returns-clause-held : goal.returns-clause-held
returns-clause-held g c =
    let q = c.args.self.now in
    let told = c.in_ok-first.ensures in
    takes g.R.Picked.pick g.R.Ranked.earlier g.met.R.Picked.ranks c.in_ok-first.first q.items _ q.len _ (omega (arith, q.fits, q.long)) (told.first q.heap) told.held
