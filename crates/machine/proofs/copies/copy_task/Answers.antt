use Rattle.model.specs.Asked.{found}
use Rattle.machine.proofs.Copying.{owed, copied_task, rightful_at}
use Rattle.machine.proofs.copies.copy_task.Goals as goal

pub invariant_of-result : goal.invariant_of-result
invariant_of-result g c =
    let ts = g.L.Load.tasks c.args.load.now in
    let i = c.args.task in
    let few = c.copy_pieces-count in
    let whole = owed (found ts i) c.in_ok-spacing.spacing few.result.0 few.result.1 (rightful_at ts (g.L.Load.lawful c.args.load.now) i) c.in_ok-spacing.ensures few.ensures in
    record { long = whole.0; slow = whole.1; some = whole.2; few = whole.3; starts = whole.4; rises = whole.5; near = whole.6; caps = whole.7 }

pub returns : goal.returns
returns g c =
    let ts = g.L.Load.tasks c.args.load.now in
    let few = c.copy_pieces-count in
    copied_task (found ts c.args.task) c.in_ok-spacing.spacing c.in_ok-total.total few.result.0 few.result.1 c.in_ok-spacing.ensures c.in_ok-total.ensures few.ensures
