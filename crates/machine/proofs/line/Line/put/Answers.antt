use Rattle.std.proofs.Common.{arith}
use Rattle.machine.proofs.Lined.{sum_put}
use Rattle.machine.proofs.line.Line.put.Goals as goal

pub returns-clause-sums : goal.returns-clause-sums
returns-clause-sums g c =
    let q = c.args.self.now in
    λ f. sum_put g.R.Picked.pick f c.args.x q.items _ q.len c.put_beside.result (omega (arith, c.requires, q.long)) c.put_beside.ensures.held
