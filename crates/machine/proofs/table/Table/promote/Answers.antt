use Rattle.machine.specs.Lines.{held_pick}
use Rattle.machine.specs.Keys.{held_key}
use Rattle.machine.proofs.Tables.{front_key, held_fewer, leads, none_ready}
use Rattle.machine.proofs.table.Table.promote.Goals as goal

pub step-requires-clause-ready : goal.step-requires-clause-ready
step-requires-clause-ready c = none_ready c.args.self.now (held_pick c.args.first) c.requires.within c.requires.first

pub step-requires-clause-held : goal.step-requires-clause-held
step-requires-clause-held c = leads c.args.self.now (held_pick c.args.first) c.requires.within held_key c.requires.first

pub returns-clause-fewer : goal.returns-clause-fewer
returns-clause-fewer c =
    let t = c.args.self.now in
    let x = held_pick c.args.first in
    held_fewer t c.step.new.self x.number x.key c.requires.within (front_key t held_key x c.requires.first c.requires.within) c.step.ensures.count c.step.ensures.entries
