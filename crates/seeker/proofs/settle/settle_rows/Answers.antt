use Rattle.std.proofs.Common.{◌≡◌, ◌+◌, ◌∷◌, drop, refl, ap, ◌∙◌, arith}
use Rattle.std.proofs.lemmas.List.{drop_more}
use Rattle.std.proofs.lemmas.Result.{err_from_is_err_and}
use Rattle.seeker.specs.Queued.{no_row}
use Rattle.seeker.specs.Refused.{ended}
use Rattle.seeker.proofs.Seeks.{going_stuck}
use Rattle.seeker.proofs.settle.settle_rows.Goals as goal

pub returns-in_err-settle_row : goal.returns-in_err-settle_row
returns-in_err-settle_row g c =
    let l = c.loop-k in
    let pass = g.J.Judge.accepts c.args.judge.now in
    let offers = g.S.Splitter.offers c.args.splitter.now in
    let os = c.args.rows.now in
    let o = c.in_ok-open.open.row in
    let here : drop l.k os ≡ o ∷ drop (l.k + 1) os = rw c.in_ok-open.ensures.1 (drop_more os l.k no_row (omega arith)) in
    let t = c.in_err-settle_row.ensures in
    let f = c.from_residual-in_err-settle_row in
    let p = err_from_is_err_and f.result f.ensures.1 in
    let r = going_stuck pass offers os c.args.places.now l.k l.places o here (omega arith) l.invariant c.settle_row.new.places _ _ refl t.kept t.places in
    record { answer = rw (p.1, p.2) (r.0 ∙ ap ended r.1.0); places = r.1.1 }
