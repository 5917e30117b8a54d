use Rattle.std.proofs.Common.{arith}
use Rattle.machine.specs.Lines.{ready_pick}
use Rattle.machine.specs.Keys.{ready_key}
use Rattle.machine.proofs.Front.{front_picked}
use Rattle.machine.proofs.Keys.{seen_long}
use Rattle.machine.proofs.table.Table.front.Goals as goal

pub returns : goal.returns
returns c =
    let t = c.args.self.now in
    let front = front_picked ready_pick _ _ t.lined c.front.result c.front.ensures t.count (seen_long ready_key t.count t.entries (omega arith)) in
    record { least = front.0; within = front.1 }
