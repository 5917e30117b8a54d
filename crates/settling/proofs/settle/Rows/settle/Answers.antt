use Rattle.std.proofs.Common.{List, length, take, sym, ap, ◌∙◌, subst, refl}
use Rattle.std.specs.List.{AllByRecursion}
use Rattle.std.proofs.lemmas.Result.{IfOk-weaker}
use Rattle.rows.specs.declared.bare.SettledRow.{SettledRow}
use Rattle.settling.specs.Settled.{settled_lines, rest_of}
use Rattle.settling.proofs.Settles.{Keeps, all_keep, shown}
use Rattle.settling.proofs.settle.Rows.settle.Goals as goal

pub settled_lines-requires : goal.settled_lines-requires
settled_lines-requires c =
    let r = c.args.self.now in
    let e = c.in-Ok.ensures in
    subst (λ (l : List SettledRow). AllByRecursion Keeps (take (length r.opens.now) l)) (sym e.places)
    (all_keep (rest_of r.plains.now r.boundeds.now) r.opens.now c.args.places.now _ e.answer (length r.opens.now) refl)

pub returns-in-Ok : goal.returns-in-Ok
returns-in-Ok c =
    let r = c.args.self.now in
    let e = c.in-Ok.ensures in
    IfOk-weaker c.settled_lines.result _ _
    (λ v is. is ∙ ap (λ (l : List SettledRow). settled_lines (take (length r.opens.now) l)) e.places
    ∙ shown (rest_of r.plains.now r.boundeds.now) r.opens.now c.args.places.now _ e.answer (length r.opens.now) refl c.requires)
    c.settled_lines.ensures
