use Rattle.std.proofs.Common.{take}
use Rattle.machine.proofs.Lined.{fronts}
use Rattle.machine.proofs.line.Line.front.Goals as goal

pub returns : goal.returns
returns g c =
    let q = c.args.self.now in
    fronts g.R.Picked.pick g.R.Ranked.earlier g.met.R.Picked.ranks (take q.len q.items) c.front_of.result c.front_of.ensures.held (c.front_of.ensures.first q.heap)
