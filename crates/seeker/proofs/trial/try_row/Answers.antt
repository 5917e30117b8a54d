use Rattle.std.proofs.Common.{cond, set, sym, ap, ◌∙◌}
use Rattle.std.proofs.lemmas.List.{take_more_set}
use Rattle.seeker.specs.Steps.{placed}
use Rattle.seeker.proofs.Tries.{undone}
use Rattle.seeker.proofs.trial.try_row.Goals as goal
use Rattle.seeker.proofs.trial.try_row.Goals.{then-good, else-good}

pub returns-clause-verdict : goal.returns-clause-verdict
returns-clause-verdict g c = c.passes-good.ensures ∙ ap (g.J.Judge.accepts c.args.judge.now) (c.front.ensures ∙ take_more_set c.args.places.now c.args.k c.args.row c.requires)

pub returns-clause-places : goal.returns-clause-places
returns-clause-places g c =
    let rows = c.args.places.now in
    let p = c.args.k in
    let x = c.args.row in
    elim c.if-good.branch [
      | then-good w ↦
          c.drop-trial.ensures ∙ ap (λ t. placed t.1.1.0 t.0.now t.1.0) w.trial-is
          ∙ ap (λ b. cond b (set rows p x) rows) (sym w.if-good.true)
      | else-good w ↦
          undone rows _ p x _ (c.drop-trial.ensures ∙ ap (λ t. placed t.1.1.0 t.0.now t.1.0) w.trial-is)
          ∙ ap (λ b. cond b (set rows p x) rows) (sym w.if-good.false)
    ]
