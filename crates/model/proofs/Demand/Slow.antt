-- Slowed tasks: lawful, with the same round, and their demand is the multiple.
use Rattle.std.proofs.Common.{◌≡◌, ℕ, ◌+◌, ◌-◌, ◌*◌, ◌/◌, ◌%◌, ◌≤◌, min, max, ltb, leb, List, [], ◌∷◌, map, sym, refl, inl, inr, mul_left_comm, mul-le-mul_left, mul-pos, mul-zero, mul-add, arith}
use Rattle.std.proofs.Math.Nat.{mul-lt-mul_of_pos_left}
use Rattle.std.proofs.lemmas.List.{length-map}
use Rattle.std.proofs.lemmas.Bool.{cases_lt, cases_Bool}
use Rattle.model.specs.Task.{Piece, Task, Lawful, AllLawful, Ordered, StartsAtWake, EachCapAtMost, caps, caps_before_last}
use Rattle.model.specs.Demand.{caps_by, part, from_wake, from_piece, from_any, demand, demand_of_all}
use Rattle.model.specs.Slow.{slow_piece, slow, slowed}
use Rattle.model.specs.Round.{round}
use Rattle.model.proofs.All.{all_weaker, all_map}

module _ (n : ℕ) where
  times_min : (a b : ℕ) → min (n * a) (n * b) ≡ n * min a b
  times_min a b = grind (arith, cases_lt a b, mul-le-mul_left {m = a} {n = b} n, mul-le-mul_left {m = b} {n = a} n)

  times_max : (a b : ℕ) → max (n * a) (n * b) ≡ n * max a b
  times_max a b = grind (arith, cases_lt a b, mul-le-mul_left {m = a} {n = b} n, mul-le-mul_left {m = b} {n = a} n)

  caps_by_slow : (e : ℕ) (ps : List Piece) → caps_by e (map (slow_piece n) ps) ≡ n * caps_by e ps
  caps_by_slow e [] = sym (mul-zero n)
  caps_by_slow e (p ∷ ps) = elim (cases_Bool (leb p.due e)) [
    | inl t ↦ rw t (omega (arith, caps_by_slow e ps, mul-add n p.cap (caps_by e ps)))
    | inr t ↦ rw t (omega (arith, caps_by_slow e ps))
  ]

  part_slow : (k : Task) (e : ℕ) (ps : List Piece) → part (slow n k) e (map (slow_piece n) ps) ≡ n * part k e ps
  part_slow k e ps = rw (caps_by_slow e ps) (times_min k.total (caps_by e ps))

  wake_slow : (k : Task) (t : ℕ) → from_wake (slow n k) t ≡ n * from_wake k t
  unfolding from_wake
  wake_slow k t =
      let q = t / k.spacing in
      omega (arith, mul_left_comm q n k.total, part_slow k (t % k.spacing) k.pieces, mul-add n (q * k.total) (part k (t % k.spacing) k.pieces))

  piece_slow : (k : Task) (p : Piece) (ps : List Piece) (t : ℕ) → from_piece (slow n k) (slow_piece n p) (map (slow_piece n) ps) t ≡ n * from_piece k p ps t
  unfolding from_piece
  piece_slow k p ps t = elim (cases_Bool (ltb (p.ready + t) k.spacing)) [
    | inl e ↦ rw e (part_slow k (p.ready + t) (p ∷ ps))
    | inr e ↦ rw e (omega (arith, part_slow k k.spacing (p ∷ ps), wake_slow k ((p.ready + t) - k.spacing), mul-add n (part k k.spacing (p ∷ ps)) (from_wake k ((p.ready + t) - k.spacing))))
  ]

  any_slow : (k : Task) (ps : List Piece) (t : ℕ) → from_any (slow n k) (map (slow_piece n) ps) t ≡ n * from_any k ps t
  any_slow k [] t = sym (mul-zero n)
  any_slow k (p ∷ ps) t = rw (piece_slow k p ps t, any_slow k ps t) (times_max (from_piece k p ps t) (from_any k ps t))

  pub demand_slow : (k : Task) (t : ℕ) → demand (slow n k) t ≡ n * demand k t
  unfolding demand
  demand_slow k t = any_slow k k.pieces t

  pub all_slow : (ks : List Task) (t : ℕ) → demand_of_all (slowed n ks) t ≡ n * demand_of_all ks t
  all_slow [] t = sym (mul-zero n)
  all_slow (k ∷ ks) t = omega (arith, demand_slow k t, all_slow ks t, mul-add n (demand k t) (demand_of_all ks t))

  pub round_slow : (ks : List Task) → round (slowed n ks) ≡ round ks
  unfolding round
  round_slow [] = refl
  round_slow (k ∷ ks) = rw (round_slow ks)

  module _ (low : 1 ≤ n) where
    starts_slow : (ps : List Piece) → StartsAtWake ps → StartsAtWake (map (slow_piece n) ps)
    starts_slow [] h = h
    starts_slow (p ∷ ps) h = h

    ordered_slow : (from end : ℕ) (ps : List Piece) → Ordered from end ps → Ordered from end (map (slow_piece n) ps)
    ordered_slow from end [] h = h
    ordered_slow from end (p ∷ ps) h = (h.0, h.1, mul-pos low h.2, ordered_slow p.due end ps h.3)

    each_slow : (total : ℕ) (ps : List Piece) → EachCapAtMost total ps → EachCapAtMost (n * total) (map (slow_piece n) ps)
    each_slow total [] h = tt
    each_slow total (p ∷ ps) h = (mul-le-mul_left n h.0, each_slow total ps h.1)

    caps_slow : (ps : List Piece) → caps (map (slow_piece n) ps) ≡ n * caps ps
    caps_slow [] = sym (mul-zero n)
    caps_slow (p ∷ ps) = omega (arith, caps_slow ps, mul-add n p.cap (caps ps))

    before_last_slow : (ps : List Piece) → caps_before_last (map (slow_piece n) ps) ≡ n * caps_before_last ps
    before_last_slow [] = sym (mul-zero n)
    before_last_slow (p ∷ []) = sym (mul-zero n)
    before_last_slow (p ∷ q ∷ ps) = omega (arith, before_last_slow (q ∷ ps), mul-add n p.cap (caps_before_last (q ∷ ps)))

    pub slow_lawful : (k : Task) → Lawful k → Lawful (slow n k)
    slow_lawful k l = record {
      spacing_low = l.spacing_low;
      spacing_high = l.spacing_high;
      few = rw (length-map k.pieces (slow_piece n)) l.few;
      starts = starts_slow k.pieces l.starts;
      ordered = ordered_slow 0 k.spacing k.pieces l.ordered;
      total_low = each_slow k.total k.pieces l.total_low;
      total_room = rw (before_last_slow k.pieces) (mul-lt-mul_of_pos_left l.total_room low);
      total_high = rw (caps_slow k.pieces) (mul-le-mul_left n l.total_high);
    }

    pub slowed_lawful : (ks : List Task) → AllLawful ks → AllLawful (slowed n ks)
    slowed_lawful ks l = all_map Lawful (slow n) ks (all_weaker Lawful (λ k. Lawful (slow n k)) slow_lawful ks l)

-- a factor is 2 or more
pub factor_lawful : (n : ℕ) → 2 ≤ n → (ks : List Task) → AllLawful ks → AllLawful (slowed n ks)
factor_lawful n h = slowed_lawful n (omega arith)
