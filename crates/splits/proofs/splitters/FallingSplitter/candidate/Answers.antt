use Rattle.std.proofs.Common.{rules}
use Rattle.model.proofs.Splits.{falling_at, falling_past}
use Rattle.splits.proofs.Offers.{offered}
use Rattle.splits.proofs.splitters.FallingSplitter.candidate.Goals as goal

pub returns : goal.returns
returns c =
    let r = c.args.row.now.row in
    let e = c.then.ensures in
    offered _ _ _ _ _
    (λ d p l. falling_at r.spacing r.first r.wait r.second c.args.k _ c.half_room-half.ensures d (search rules) l)
    (falling_past r.spacing r.first r.wait r.second c.args.k _ c.half_room-half.ensures)
    e.variant e.some
