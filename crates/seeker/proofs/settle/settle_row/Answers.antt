use Rattle.std.proofs.Common.{◌≡◌, ◌+◌, ◌≤◌, true, false, [], ◌∷◌, ◌++◌, length, take, set, None, Err, sym, ap, refl, ◌∙◌, arith}
use Rattle.model.specs.declared.refusal.Refusal.TheVariants.{NoSplit}
use Rattle.rows.specs.Bare.{with_split}
use Rattle.seeker.specs.Sought.{candidates, first_passing}
use Rattle.seeker.proofs.Tries.{this_passes, this_fails, none_left, none_past, kept_as}
use Rattle.seeker.proofs.settle.settle_row.Goals as goal
use Rattle.seeker.proofs.settle.settle_row.Goals.{in-None, in-Some+in_default}

pub returns-then-try_row : goal.returns-then-try_row
returns-then-try_row g c =
    let l = c.loop-n in
    let ok = g.J.Judge.accepts c.args.judge.now in
    let rows = c.args.places.now in
    let k = c.args.k in
    let o = c.args.row.now.row in
    let xs = candidates (g.S.Splitter.offers c.args.splitter.now) o in
    let x = c.in-Some-candidate.split in
    let at = c.in-Some.ensures.steps.0 in
    let here = c.in-Some-candidate.ensures in
    let same : l.places ≡ rows = l.invariant.0 in
    let row : c.with_split.result ≡ with_split o x = c.with_split.ensures in
    let won : ok (take k rows ++ with_split o x ∷ []) ≡ true = let v = c.if-try_row.ensures.verdict in cc in
    let left : c.try_row.new.places ≡ set rows k (with_split o x) = let p = c.if-try_row.ensures.places in cc in
    kept_as o.name _ _ rows _ k _ (this_passes ok (take k rows) o xs l.n-iterator.start l.invariant.1 x (rw (sym at) (sym here)) won) refl left

pub loop-n-preserved : goal.loop-n-preserved
loop-n-preserved g c =
    let l = c.loop-n in
    let ok = g.J.Judge.accepts c.args.judge.now in
    let rows = c.args.places.now in
    let k = c.args.k in
    let o = c.args.row.now.row in
    let xs = candidates (g.S.Splitter.offers c.args.splitter.now) o in
    let x = c.in-Some-candidate.split in
    let at = c.in-Some.ensures.steps in
    let here = c.in-Some-candidate.ensures in
    let same : l.places ≡ rows = l.invariant.0 in
    let row : c.with_split.result ≡ with_split o x = c.with_split.ensures in
    let lost : ok (take k rows ++ with_split o x ∷ []) ≡ false = let v = c.if-try_row.ensures.verdict in cc in
    let next : c.next.new.self.start ≡ l.n-iterator.start + 1 = omega arith in
    (c.if-try_row.ensures.places ∙ same, rw next (this_fails ok (take k rows) o xs l.n-iterator.start l.invariant.1 x (rw (sym at.0) (sym here)) lost))

pub returns : goal.returns
returns g c =
    let l = c.loop-n in
    let ok = g.J.Judge.accepts c.args.judge.now in
    let rows = c.args.places.now in
    let k = c.args.k in
    let r = c.args.row.now in
    let o = r.row in
    let xs = candidates (g.S.Splitter.offers c.args.splitter.now) o in
    let n = l.n-iterator.start in
    let few : length xs ≤ 10000 = (g.S.Splitter.lawful c.args.splitter.now _ _ _ _ r.ok).0 in
    let none : first_passing ok (take k rows) o xs ≡ None = elim c.match-next.branch [
      | in-None w ↦ none_past ok (take k rows) o xs n l.invariant.1 (omega (arith, w.in-None.ensures.steps.0))
      | in-Some+in_default w ↦ none_left ok (take k rows) o xs n l.invariant.1 (rw (sym w.in-Some.ensures.steps.0) (sym w.in_default.ensures))
    ] in
    kept_as o.name _ None rows _ k _ none (ap (λ n. Err (NoSplit n)) c.name.ensures) l.invariant.0
