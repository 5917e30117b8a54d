use Rattle.std.proofs.Common.{◌+◌, drop, Some, sym, ap, ◌∙◌, arith}
use Rattle.std.proofs.lemmas.List.{at_drop_more, at_drop_all}
use Rattle.seeker.specs.Queued.{no_row}
use Rattle.seeker.proofs.Fits.{join_round, round_joined}
use Rattle.seeker.proofs.begin.joint_round.Goals as goal

pub returns-in_err-round : goal.returns-in_err-round
returns-in_err-round g c =
    let rows = c.args.rows.now in
    c.from_residual.ensures ∙ ap (λ f. join_round f rows) c.in_err-round.ensures ∙ round_joined (g.L.Load.tasks c.args.rest.now) rows (g.L.Load.lawful c.args.rest.now) c.requires

pub returns-in_err-round-2 : goal.returns-in_err-round-2
returns-in_err-round-2 g c =
    let rows = c.args.rows.now in
    let i = c.loop-row.row-index in
    c.from_residual-in_err-round-2.ensures ∙ ap (λ f. join_round f (drop (i + 1) rows)) c.in_err-round-2.ensures ∙ sym (at_drop_more (join_round (Some c.loop-row.round)) rows i no_row (omega arith)) ∙ c.loop-row.invariant
    ∙ round_joined (g.L.Load.tasks c.args.rest.now) rows (g.L.Load.lawful c.args.rest.now) c.requires

pub returns : goal.returns
returns g c =
    let rows = c.args.rows.now in
    sym (at_drop_all (join_round (Some c.loop-row.round)) rows c.loop-row.row-index (omega arith)) ∙ c.loop-row.invariant
    ∙ round_joined (g.L.Load.tasks c.args.rest.now) rows (g.L.Load.lawful c.args.rest.now) c.requires
