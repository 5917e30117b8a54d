use Rattle.std.proofs.Common.{ℕ, sym, ◌∙◌, subst, arith}
use Rattle.machine.specs.Copies.{Copying}
use Rattle.model.specs.Asked.{found}
use Rattle.machine.proofs.Copying.{copy_all, copy_stop, rightful_at}
use Rattle.machine.proofs.copies.copy_pieces.Goals as goal

pub returns : goal.returns
returns g c =
    let ts = g.L.Load.tasks c.args.load.now in
    let o = found ts c.args.task in
    copy_all o 4 c.loop-i.place-items (omega arith) (rightful_at ts (g.L.Load.lawful c.args.load.now) c.args.task) (subst (λ (n : ℕ). Copying o n c.loop-i.place-items) (omega arith) c.loop-i.invariant)

pub returns-in_default : goal.returns-in_default
returns-in_default g c = copy_stop (found (g.L.Load.tasks c.args.load.now) c.args.task) c.loop-i.i c.loop-i.place-items _ c.loop-i.invariant (sym c.in_default.is ∙ c.piece.ensures)
