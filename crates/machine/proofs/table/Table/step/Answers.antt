use Rattle.std.proofs.Common.{◌∙◌, arith}
use Rattle.std.proofs.lemmas.List.{length-set}
use Rattle.machine.specs.Keys.{ready_key, held_key}
use Rattle.machine.specs.Readies.{readies, helds}
use Rattle.machine.proofs.Tables.{ready_long, held_long, new_good, all_good, room_left, put_back}
use Rattle.machine.proofs.table.Table.step.Goals as goal

pub put-requires : goal.put-requires
put-requires c =
    let t = c.args.self.now in
    let i = c.args.task in
    let d = c.index-self-task.result in
    let q = c.take.new.self in
    let asked = c.requires in
    record {
      good = new_good t i asked.within d c.args.event c.next-new.result c.next-new.ensures asked.early;
      ready_room = omega (arith, room_left t i asked.within d ready_key (readies t.lines) (readies q) t.lined asked.ready c.take.ensures.ready, ready_long q);
      held_room = omega (arith, room_left t i asked.within d held_key (helds t.lines) (helds q) t.parked asked.held c.take.ensures.held, held_long q);
    }

pub invariant_of-self : goal.invariant_of-self
invariant_of-self c =
    let t = c.args.self.now in
    let i = c.args.task in
    let d = c.index-self-task.result in
    let q = c.take.new.self in
    let e = c.next-new.result in
    let asked = c.requires in
    record {
      long = length-set t.entries i e ∙ t.long;
      few = t.few;
      good = all_good t i asked.within d c.args.event e c.next-new.ensures asked.early;
      lined = put_back t i asked.within d ready_key (readies t.lines) (readies q) t.lined asked.ready c.take.ensures.ready e (readies c.put.new.self) c.put.ensures.ready;
      parked = put_back t i asked.within d held_key (helds t.lines) (helds q) t.parked asked.held c.take.ensures.held e (helds c.put.new.self) c.put.ensures.held;
    }
