use Rattle.machine.specs.Lines.{ready_pick}
use Rattle.machine.specs.Keys.{ready_key}
use Rattle.machine.proofs.Tables.{leads, none_held}
use Rattle.machine.proofs.table.Table.advance.Goals as goal

pub step-requires-clause-ready : goal.step-requires-clause-ready
step-requires-clause-ready c = leads c.args.self.now (ready_pick c.args.front) c.requires.within ready_key c.requires.front

pub step-requires-clause-held : goal.step-requires-clause-held
step-requires-clause-held c = none_held c.args.self.now (ready_pick c.args.front) c.requires.within c.requires.front
