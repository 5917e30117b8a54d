use Rattle.std.proofs.Common.{rules}
use Rattle.model.proofs.Splits.{rising_at, rising_past}
use Rattle.splits.proofs.Offers.{offered}
use Rattle.splits.proofs.splitters.RisingSplitter.candidate.Goals as goal

pub returns : goal.returns
returns c =
    let r = c.args.row.now.row in
    let e = c.then.ensures in
    offered _ _ _ _ _
    (λ d p l. rising_at r.spacing r.first r.wait r.second c.args.k _ c.half_room.ensures d (search rules) l)
    (rising_past r.spacing r.first r.wait r.second c.args.k _ c.half_room.ensures)
    e.variant e.some
