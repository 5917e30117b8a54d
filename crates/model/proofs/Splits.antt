-- Every offer of the splitters is lawful, and which one is number k.
use Rattle.std.proofs.Common.{◌≡◌, ℕ, zero, suc, ◌+◌, ◌-◌, ◌*◌, ◌/◌, ◌<◌, ◌≤◌, min, List, length, get_or, Some, None, sym, refl, ap, ◌∙◌, add-mul, mul-le-mul_left, mul-lt-mul_of_pos_right, mul-add, arith}
use Rattle.std.proofs.lemmas.Nat.{le-div, div_below}
use Rattle.std.proofs.lemmas.List.{length-map, get_or-map}
use Rattle.std.proofs.lemmas.List.Elements.{All-from_get_or, recursion_from_All}
use Rattle.std.proofs.lemmas.List.FromFn.{length-map-range_with_len, get_or-map-range_with_len}
use Rattle.std.proofs.lemmas.Option.{slice_get_read, slice_get_past}
use Rattle.std.specs.List.{slice_get}
use Rattle.model.specs.Rows.{From, LawfulOpen}
use Rattle.model.specs.Splits.{LawfulOffers, short_has, half, down, equal_offers, proportional_offers, falling_offers, rising_offers}
use Rattle.model.proofs.Tests.{if_le}

-- n, n - 1, .. 1 by number
length_down : (n : ℕ) → length (down n) ≡ n
length_down zero = refl
length_down (suc n) = ap suc (length_down n)

down_at : (n i d : ℕ) → i < n → get_or (down n) i d ≡ n - i
down_at zero i d h = absurd (omega arith)
down_at (suc n) zero d h = omega arith
down_at (suc n) (suc i) d h = omega (arith, down_at n i d (omega arith))

-- the offers: how many, and by number
module _ (T C1 S C2 : ℕ) where
  falling_length : length (falling_offers T C1 S C2) ≡ half T S
  unfolding falling_offers
  falling_length = length-map (down (half T S)) (short_has T C1 S C2) ∙ length_down (half T S)

  falling_is : (k d : ℕ) → k < half T S → get_or (falling_offers T C1 S C2) k d ≡ short_has T C1 S C2 (half T S - k)
  unfolding falling_offers
  falling_is k d l = get_or-map (short_has T C1 S C2) (down (half T S)) k 0 d (omega (arith, length_down)) ∙ ap (short_has T C1 S C2) (down_at (half T S) k 0 l)

  rising_length : length (rising_offers T C1 S C2) ≡ half T S
  unfolding rising_offers
  rising_length = length-map-range_with_len (short_has T C1 S C2) 1 (half T S)

  rising_is : (k d : ℕ) → k < half T S → get_or (rising_offers T C1 S C2) k d ≡ short_has T C1 S C2 (1 + k)
  unfolding rising_offers
  rising_is k d l = get_or-map-range_with_len (short_has T C1 S C2) 1 (half T S) k (1 + k) d l refl

-- what the short piece can have
module _ (T C1 S C2 : ℕ) (l : LawfulOpen T C1 S C2) where
  short_lawful : (n : ℕ) → 1 ≤ n → n ≤ half T S → From 1 (short_has T C1 S C2 n) (T - S - 1)
  short_lawful n low high = (omega (arith, if_le C1 C2 n ((T - S) - n)), omega (arith, if_le C1 C2 n ((T - S) - n)))

  pub equal_lawful : LawfulOffers T S (equal_offers T C1 S C2)
  equal_lawful = (omega arith, (short_lawful (half T S) (omega arith) (omega arith), tt))

  -- a list of which each number is 1 to half
  each_lawful : (xs : List ℕ) (g : ℕ → ℕ) → length xs ≡ half T S → ((i : ℕ) → i < half T S → (1 ≤ g i) × (g i ≤ half T S) × (get_or xs i 0 ≡ short_has T C1 S C2 (g i))) → LawfulOffers T S xs
  each_lawful xs g e each = (
    omega (arith, e),
    recursion_from_All _ xs (All-from_get_or (λ D1. From 1 D1 (T - S - 1)) xs 0 (λ i b. let r = each i (omega (arith, e)) in rw r.2 (short_lawful (g i) r.0 r.1))),
  )

  pub falling_lawful : LawfulOffers T S (falling_offers T C1 S C2)
  falling_lawful = each_lawful _ (λ i. half T S - i) (falling_length T C1 S C2) (λ i b. (omega arith, omega arith, falling_is T C1 S C2 i 0 b))

  pub rising_lawful : LawfulOffers T S (rising_offers T C1 S C2)
  rising_lawful = each_lawful _ (λ i. 1 + i) (rising_length T C1 S C2) (λ i b. (omega arith, omega arith, rising_is T C1 S C2 i 0 b))

  -- the proportional offer lies between the lesser cost and half
  pub proportional_lawful : LawfulOffers T S (proportional_offers T C1 S C2)
  proportional_lawful = (omega arith, (short_lawful ((T - S) * min C1 C2 / (C1 + C2)) low high, tt))
    where
      low : 1 ≤ (T - S) * min C1 C2 / (C1 + C2)
      low = le-div 1 ((T - S) * min C1 C2) (C1 + C2) (omega arith) (omega (arith, mul-le-mul_left {m = 1} {n = min C1 C2} (T - S) (omega arith)))

      high : (T - S) * min C1 C2 / (C1 + C2) ≤ (T - S) / 2
      high =
          let above = (T - S) / 2 + 1 in
          let twice : (T - S) * (min C1 C2 + min C1 C2) ≤ (T - S) * (C1 + C2) = mul-le-mul_left (T - S) (omega arith) in
          let over : (T - S) * (C1 + C2) < (above + above) * (C1 + C2) = mul-lt-mul_of_pos_right (omega arith) (omega arith) in
          let below : (T - S) * min C1 C2 < above * (C1 + C2) = omega (arith, twice, over, mul-add (T - S) (min C1 C2) (min C1 C2), add-mul above above (C1 + C2)) in
          omega (arith, div_below ((T - S) * min C1 C2) (C1 + C2) above (omega arith) below)

-- the offers as they are asked for
module _ (T C1 S C2 k h : ℕ) (is : h ≡ half T S) where
  pub falling_at : (d : ℕ) → d ≡ short_has T C1 S C2 (h - k) → k < h → Some d ≡ slice_get (falling_offers T C1 S C2) k
  falling_at d e l = sym (slice_get_read _ h k d (is ∙ sym (falling_length T C1 S C2)) l (e ∙ ap (λ n. short_has T C1 S C2 (n - k)) is ∙ sym (falling_is T C1 S C2 k d (omega (arith, is)))))

  pub falling_past : h ≤ k → None ≡ slice_get (falling_offers T C1 S C2) k
  falling_past l = sym (slice_get_past _ k (omega (arith, is, falling_length)))

  pub rising_at : (d : ℕ) → d ≡ short_has T C1 S C2 (1 + k) → k < h → Some d ≡ slice_get (rising_offers T C1 S C2) k
  rising_at d e l = sym (slice_get_read _ h k d (is ∙ sym (rising_length T C1 S C2)) l (e ∙ sym (rising_is T C1 S C2 k d (omega (arith, is)))))

  pub rising_past : h ≤ k → None ≡ slice_get (rising_offers T C1 S C2) k
  rising_past l = sym (slice_get_past _ k (omega (arith, is, rising_length)))
