use Rattle.std.proofs.Common.{◌≡◌, ℕ, [], length, Some, None, sym, ap, ◌∙◌, subst, arith}
use Rattle.std.specs.List.{AllByRecursion}
use Rattle.std.proofs.lemmas.Result.{err_from_is_err_and}
use Rattle.rows.specs.Bare.{open_breaks}
use Rattle.seeker.specs.Judged.{judged}
use Rattle.seeker.specs.Queued.{queued}
use Rattle.seeker.specs.Refused.{answer, ended, leaves, refused}
use Rattle.seeker.specs.Sought.{Sought, over, passes, sought}
use Rattle.seeker.proofs.Begins.{begins, begun, not_refused, refused_by}
use Rattle.seeker.proofs.Fits.{each_keeps}
use Rattle.seeker.proofs.Lawful.{law, all_pass, judged_alike, rest_decided}
use Rattle.seeker.proofs.Queues.{all_queued, length_queued}
use Rattle.seeker.proofs.seek.seek.Goals as goal

pub returns-in_err-begin : goal.returns-in_err-begin
returns-in_err-begin g c =
    let rest = g.L.Load.tasks c.args.rest.now in
    let rows = c.args.rows.now in
    let places = c.args.places.now in
    let s = sought (passes rest) (g.S.Splitter.offers c.args.splitter.now) (queued rows) [] in
    let p = err_from_is_err_and c.from_residual.result c.from_residual.ensures.1 in
    let is : refused rest rows (length places) ≡ Some c.in_err-begin.field-0.0 = refused_by _ _ c.in_err-begin.ensures in
    let told : c.from_residual.result ≡ answer (refused rest rows (length places)) s = rw (p.1, p.2) (sym (ap (λ f. answer f s) is)) in
    record {
      answer = told;
      begun = begins rest rows (length places) s _ told;
      places = sym (ap (λ f. leaves f places s) is);
      law = λ h. let z : ◌≡◌ {A = ℕ} 0 1 = cc in absurd (omega arith);
      accepted = λ h. let q = p.1 in let z : ◌≡◌ {A = ℕ} 0 1 = cc in absurd (omega arith);
      alone = rest_decided rest (g.L.Load.lawful c.args.rest.now) rows (length places);
    }

pub settle_rows-requires : goal.settle_rows-requires
settle_rows-requires g c =
    let rows = c.args.rows.now in
    let r = (begun (g.L.Load.tasks c.args.rest.now) rows (length c.args.places.now) (not_refused _ _ c.in_ok-begin.ensures)).0 in
    record {
      room = omega (arith, r.room, ap length c.order_rows.ensures, length_queued rows);
      lawful = subst (AllByRecursion (λ o. open_breaks o ≡ None)) (sym c.order_rows.ensures) (all_queued (λ o. open_breaks o ≡ None) rows (each_keeps open_breaks rows r.lawful));
    }

pub returns : goal.returns
returns g c =
    let rest = g.L.Load.tasks c.args.rest.now in
    let offers = g.S.Splitter.offers c.args.splitter.now in
    let rows = c.args.rows.now in
    let places = c.args.places.now in
    let lawful = g.L.Load.lawful c.args.rest.now in
    let offered = g.S.Splitter.lawful c.args.splitter.now in
    let s = sought (passes rest) offers (queued rows) [] in
    let is : refused rest rows (length places) ≡ None = not_refused _ _ c.in_ok-begin.ensures in
    let alike : sought (judged rest) offers c.order_rows.new.out [] ≡ s =
    ap (λ os. sought (judged rest) offers os []) c.order_rows.ensures ∙ judged_alike rest lawful rows (length places) offers offered is in
    let ends : c.settle_rows.result ≡ ended s.stuck = c.settle_rows.ensures.answer ∙ ap (λ (s : Sought). ended s.stuck) alike in
    let left : c.settle_rows.new.places ≡ over s.settled places = c.settle_rows.ensures.places ∙ ap (λ (s : Sought). over s.settled places) alike in
    let by_law = law rest lawful rows (length places) offers offered is places c.settle_rows.new.places c.settle_rows.result ends left in
    let told : c.settle_rows.result ≡ answer (refused rest rows (length places)) s = ends ∙ sym (ap (λ f. answer f s) is) in
    record {
      answer = told;
      begun = begins rest rows (length places) s _ told;
      places = left ∙ sym (ap (λ f. leaves f places s) is);
      law = λ h. by_law;
      accepted = all_pass rest lawful rows (length places) offers offered is _ _ _ by_law;
      alone = rest_decided rest lawful rows (length places);
    }
