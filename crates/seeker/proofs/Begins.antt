-- What is known once a seek is not refused.
use Rattle.std.proofs.Common.{◌≡◌, ℕ, ◌+◌, ◌<◌, ◌≤◌, Bool, true, false, leb, ◌↔◌, List, [], ◌∷◌, length, Some, None, Ok, Err, Option, sym, refl, ap, subst, inl, inr, arith}
use Rattle.std.proofs.lemmas.Bool.{leb-true}
use Rattle.model.specs.declared.refusal.Refusal.{Refusal}
use Rattle.model.specs.declared.refusal.Refusal.TheVariants.{Spacing, ZeroPart, TooLong, TooManyTasks, NoRound, NoPlace, NoSplit}
use Rattle.model.specs.Refusals.{number}
use Rattle.model.specs.Rules.{within, unless, either, no_zero, first_fault}
use Rattle.model.specs.Task.{Task}
use Rattle.model.specs.Verdict.{Verdict, accepted, verdict}
use Rattle.model.proofs.Verdict.Means.{Means, fits, exceeds, many, far, means}
use Rattle.rows.specs.Bare.{open_breaks}
use Rattle.rows.specs.declared.bare.OpenRow.{OpenRow}
use Rattle.seeker.specs.Law.{Began}
use Rattle.seeker.specs.Refused.{round_of_all, unready, refusal_of, refused, by_refusal, ended, answer}
use Rattle.seeker.specs.Sought.{Sought}

kept : (e : Refusal) (b : Bool) (next : Option Refusal) → unless e b next ≡ None → (b ≡ true) × (next ≡ None)
kept e true next h = (refl, h)
kept e false next h = let z : ◌≡◌ {A = ℕ} 0 1 = cc in absurd (omega arith)

both : (a b : Option Refusal) → either a b ≡ None → (a ≡ None) × (b ≡ None)
both None b h = (refl, h)
both (Some e) b h = let z : ◌≡◌ {A = ℕ} 0 1 = cc in absurd (omega arith)

none_of : (v : Verdict) → refusal_of v ≡ None → v ≡ accepted
none_of (Ok tt) h = refl
none_of (Err e) h = let z : ◌≡◌ {A = ℕ} 0 1 = cc in absurd (omega arith)

pub record Ready (rest : List Task) (rows : List OpenRow) (places : ℕ) : Type 0 where
  pub few : length rest + length rows ≤ 32
  pub room : length rows ≤ places
  pub lawful : first_fault open_breaks rows ≡ None
  pub near : round_of_all rest rows ≤ 100000

module _ (rest : List Task) (rows : List OpenRow) (places : ℕ) where
  pub ready : unready rest rows places ≡ None → Ready rest rows places
  ready h =
      let a = kept _ _ _ h in
      let b = kept _ _ _ a.1 in
      let c = both _ _ b.1 in
      let d = kept _ _ _ c.1 in
      record { few = leb-true _ _ a.0; room = leb-true _ _ b.0; lawful = c.0; near = leb-true _ _ d.0 }

  pub begun : refused rest rows places ≡ None → Ready rest rows places × (verdict rest ≡ accepted)
  begun h = let a = both _ _ h in (ready a.0, none_of (verdict rest) a.1)

-- a refusal, read off the answer that it gives
pub not_refused : (f : Option Refusal) (u : Unit {0}) → Ok u ≡ by_refusal f → f ≡ None
not_refused None u e = refl
not_refused (Some x) u e = let z : ◌≡◌ {A = ℕ} 0 1 = cc in absurd (omega arith)

pub refused_by : (f : Option Refusal) (e : Refusal) → Err e ≡ by_refusal f → f ≡ Some e
refused_by None x e = let z : ◌≡◌ {A = ℕ} 0 1 = cc in absurd (omega arith)
refused_by (Some y) x e = let s : y ≡ x = cc in ap Some s

-- a refusal, if any, has a lower number than that of a row that has no split
abbrev Early : Option Refusal → Type 0
Early f = (x : Refusal) → f ≡ Some x → number x < 14

early_none : Early None
early_none x e = let z : ◌≡◌ {A = ℕ} 0 1 = cc in absurd (omega arith)

early_some : (e : Refusal) → number e < 14 → Early (Some e)
early_some e h x p = let s : e ≡ x = cc in subst (λ y. number y < 14) s h

early_unless : (e : Refusal) (b : Bool) (next : Option Refusal) → number e < 14 → Early next → Early (unless e b next)
early_unless e true next h k = k
early_unless e false next h k = early_some e h

early_either : (a b : Option Refusal) → Early a → Early b → Early (either a b)
early_either None b h k = k
early_either (Some e) b h k = h

early_rows : (rows : List OpenRow) → Early (first_fault open_breaks rows)
early_rows [] = early_none
early_rows (o ∷ os) = early_either (open_breaks o) _ (early_unless Spacing (within 1 o.spacing 10000) _ (omega arith) (early_unless ZeroPart (no_zero o.first o.wait o.second) _ (omega arith) (early_unless TooLong (leb (o.first + o.wait + o.second) o.spacing) _ (omega arith) early_none))) (early_rows os)

early_verdict : (ks : List Task) → Early (refusal_of (verdict ks))
early_verdict ks = go (means ks)
  where
    at : (v : Verdict) → verdict ks ≡ v → Early (refusal_of v) → Early (refusal_of (verdict ks))
    at v e h = subst (λ w. Early (refusal_of w)) (sym e) h

    go : Means ks (verdict ks) → Early (refusal_of (verdict ks))
    go (fits v a b f) = at _ v early_none
    go (exceeds t v a b l u over before) = at _ v (early_some _ (omega arith))
    go (many v n) = at _ v (early_some _ (omega arith))
    go (far v a f) = at _ v (early_some _ (omega arith))

early : (rest : List Task) (rows : List OpenRow) (places : ℕ) → Early (refused rest rows places)
early rest rows places =
    early_either (unready rest rows places) (refusal_of (verdict rest))
    (early_unless TooManyTasks (leb (length rest + length rows) 32) _ (omega arith) (early_unless NoPlace (leb (length rows) places) _ (omega arith) (early_either (first_fault open_breaks rows) _ (early_rows rows) (early_unless NoRound (leb (round_of_all rest rows) 100000) _ (omega arith) early_none))))
    (early_verdict rest)

began : (f : Option Refusal) (s : Sought) → Early f → (f ≡ None) ↔ Began (answer f s)
began None s h = (λ e. told s.stuck, λ b. refl)
  where
    told : (stuck : Option ℕ) → Began (ended stuck)
    told None = inl refl
    told (Some name) = inr (name, refl)
began (Some x) s h = (λ e. let z : ◌≡◌ {A = ℕ} 0 1 = cc in absurd (omega arith), never)
  where
    never : Began (Err x) → Some x ≡ None
    never (inl e) = let z : ◌≡◌ {A = ℕ} 0 1 = cc in absurd (omega arith)
    never (inr b) = let e = b.1 in let same : x ≡ NoSplit b.0 = cc in absurd (omega (arith, h x refl, ap number same))

-- a seek begins exactly when nothing refuses it
pub begins : (rest : List Task) (rows : List OpenRow) (places : ℕ) (s : Sought) (r : Verdict) → r ≡ answer (refused rest rows places) s → (refused rest rows places ≡ None) ↔ Began r
begins rest rows places s r e = subst (λ v. (refused rest rows places ≡ None) ↔ Began v) (sym e) (began (refused rest rows places) s (early rest rows places))
