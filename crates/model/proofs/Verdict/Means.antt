-- Each verdict in the subject's words, and when the check accepts.
use Rattle.std.proofs.Common.{◌≡◌, ℕ, ◌-◌, ◌*◌, ◌<◌, ◌≤◌, List, length, Some, None, Option, sym, refl, ap, ◌∙◌, subst, inl, inr, arith}
use Rattle.std.proofs.lemmas.Bool.{cases_lt, lt-ltb, le-ltb, le-leb, lt-leb}
use Rattle.model.specs.Task.{Task, AllLawful}
use Rattle.model.specs.Demand.{demand_of_all}
use Rattle.model.specs.Round.{round, round_told}
use Rattle.model.specs.Verdict.{Verdict, accepted, overloaded, too_many, no_round, verdict_number, first_over, by_length, by_round, verdict}
use Rattle.model.proofs.Demand.Laws.{from_one}
use Rattle.model.proofs.Round.Least.{two_rounds_tell}
use Rattle.model.proofs.Verdict.Walk.{Walked, walked}

-- what a verdict on ks says of them
pub data Means (ks : List Task) (v : Verdict) : Type 0 where
  fits : v ≡ accepted → length ks ≤ 32 → round ks ≤ 100000 → ((t : ℕ) → 1 ≤ t → t < 2 * round ks → demand_of_all ks t ≤ t) → Means ks v
  exceeds : (t : ℕ) → v ≡ overloaded t → length ks ≤ 32 → round ks ≤ 100000 → 1 ≤ t → t < 2 * round ks → t < demand_of_all ks t → ((s : ℕ) → 1 ≤ s → s < t → demand_of_all ks s ≤ s) → Means ks v
  many : v ≡ too_many → 32 < length ks → Means ks v
  far : v ≡ no_round → length ks ≤ 32 → 100000 < round ks → Means ks v

-- the verdict by its three rules
module _ (ks : List Task) where
  pub verdict_many : 32 < length ks → verdict ks ≡ too_many
  unfolding verdict
  verdict_many h = rw (lt-ltb 32 (length ks) h)

  pub verdict_few : length ks ≤ 32 → verdict ks ≡ by_round ks (round_told (round ks))
  unfolding verdict
  verdict_few h = rw (le-ltb 32 (length ks) h)

  -- by the round as it is told
  pub verdict_told : (o : Option ℕ) → length ks ≤ 32 → o ≡ round_told (round ks) → verdict ks ≡ by_round ks o
  verdict_told o h e = verdict_few h ∙ ap (by_round ks) (sym e)

  pub verdict_far : length ks ≤ 32 → 100000 < round ks → verdict ks ≡ no_round
  verdict_far h r = verdict_few h ∙ rw (lt-leb (round ks) 100000 r)

  pub verdict_near : length ks ≤ 32 → round ks ≤ 100000 → verdict ks ≡ by_length (first_over ks (2 * round ks - 1) 1)
  verdict_near h r = verdict_few h ∙ rw (le-leb (round ks) 100000 r)

  by_walk : (o : Option ℕ) → length ks ≤ 32 → round ks ≤ 100000 → Walked ks (2 * round ks - 1) 1 o → Means ks (by_length o)
  by_walk None a b w = fits refl a b (λ t l u. w t l (omega arith))
  by_walk (Some t) a b w = exceeds t refl a b w.0 (omega arith) w.2 w.3

  pub means : Means ks (verdict ks)
  means = elim (cases_lt 32 (length ks)) [
    | inl m ↦ many (verdict_many m) m
    | inr few ↦ elim (cases_lt 100000 (round ks)) [
      | inl f ↦ far (verdict_far few f) few f
      | inr near ↦ rw (verdict_near few near) (by_walk _ few near (walked ks (2 * round ks - 1) 1))
    ]
  ]

  -- what an overloaded length says
  pub record Exceeds (t : ℕ) : Type 0 where
    pub in_range : t < 200000
    pub exceeded : t < demand_of_all ks t
    pub none_before : (s : ℕ) → 1 ≤ s → s < t → demand_of_all ks s ≤ s

  pub overloaded_means : (t : ℕ) → verdict ks ≡ overloaded t → Exceeds t
  overloaded_means t e = elim means [
    | fits v a b f ↦ cc
    | exceeds u v a b low high over before ↦ let same : u ≡ t = cc in subst Exceeds same (record { in_range = omega arith; exceeded = over; none_before = before })
    | many v m ↦ cc
    | far v a f ↦ cc
  ]

  pub many_means : verdict_number (verdict ks) ≡ 10 → 32 < length ks
  many_means e = elim means [
    | fits v a b f ↦ absurd (omega (arith, ap verdict_number v))
    | exceeds u v a b low high over before ↦ absurd (omega (arith, ap verdict_number v))
    | many v m ↦ m
    | far v a f ↦ absurd (omega (arith, ap verdict_number v))
  ]

  pub far_means : verdict_number (verdict ks) ≡ 11 → (length ks ≤ 32) × (100000 < round ks)
  far_means e = elim means [
    | fits v a b f ↦ absurd (omega (arith, ap verdict_number v))
    | exceeds u v a b low high over before ↦ absurd (omega (arith, ap verdict_number v))
    | many v m ↦ absurd (omega (arith, ap verdict_number v))
    | far v a f ↦ (a, f)
  ]

  -- the check accepts exactly what fits every length
  pub record Fits : Type 0 where
    pub few : length ks ≤ 32
    pub near : round ks ≤ 100000
    pub passes : (t : ℕ) → 1 ≤ t → t < 2 * round ks → demand_of_all ks t ≤ t

  pub accepted_means : verdict ks ≡ accepted → Fits
  accepted_means e = elim means [
    | fits v a b f ↦ record { few = a; near = b; passes = f }
    | exceeds u v a b low high over before ↦ cc
    | many v m ↦ cc
    | far v a f ↦ cc
  ]

  pub accepted_fits : AllLawful ks → verdict ks ≡ accepted → (t : ℕ) → demand_of_all ks t ≤ t
  accepted_fits l e = two_rounds_tell ks l (from_one ks l (2 * round ks) (accepted_means e).passes)

  pub fits_accepted : length ks ≤ 32 → round ks ≤ 100000 → ((t : ℕ) → demand_of_all ks t ≤ t) → verdict ks ≡ accepted
  fits_accepted few near passes = elim means [
    | fits v a b f ↦ v
    | exceeds t v a b low high over before ↦ absurd (omega (arith, passes t))
    | many v m ↦ absurd (omega arith)
    | far v a f ↦ absurd (omega arith)
  ]
