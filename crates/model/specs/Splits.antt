-- Splits of an open row: the due offset of its first piece.
-- T is the spacing, S the wait, and C1 and C2 are the costs before and after it.
use Rattle.std.specs.Prelude.{ℕ, zero, suc, ◌+◌, ◌-◌, ◌*◌, ◌/◌, ◌≤◌, min, cond, List, [], ◌∷◌, map, length, nat_le}
use Rattle.std.specs.List.{AllByRecursion, range_with_len}
use Rattle.model.specs.Rows.{From}

-- the split at which the short piece has n ticks of the T - S between its ready and its due instant;
-- the short piece is the one that costs less, the first on a tie
abbrev pub short_has : ℕ → ℕ → ℕ → ℕ → ℕ → ℕ
short_has T C1 S C2 n = cond (nat_le C1 C2) n ((T - S) - n)

-- half of the spacing less the wait, rounded down
abbrev pub half : ℕ → ℕ → ℕ
half T S = (T - S) / 2

abbrev pub equal_split : ℕ → ℕ → ℕ → ℕ → ℕ
equal_split T C1 S C2 = short_has T C1 S C2 (half T S)

abbrev pub proportional_split : ℕ → ℕ → ℕ → ℕ → ℕ
proportional_split T C1 S C2 = short_has T C1 S C2 ((T - S) * min C1 C2 / (C1 + C2))

-- a splitter offers an open row at most 10,000 splits, and each leaves room for both pieces
abbrev pub LawfulOffers : ℕ → ℕ → List ℕ → Type 0
LawfulOffers T S splits = (length splits ≤ 10000) × AllByRecursion (λ D1. From 1 D1 (T - S - 1)) splits

-- n, n - 1, .. 1
abbrev pub down : ℕ → List ℕ
down zero = []
down (suc n) = suc n ∷ down n

abbrev pub equal_offers : ℕ → ℕ → ℕ → ℕ → List ℕ
equal_offers T C1 S C2 = equal_split T C1 S C2 ∷ []

abbrev pub proportional_offers : ℕ → ℕ → ℕ → ℕ → List ℕ
proportional_offers T C1 S C2 = proportional_split T C1 S C2 ∷ []

-- the short piece has half, and then ever less
unfoldable pub falling_offers : ℕ → ℕ → ℕ → ℕ → List ℕ
falling_offers T C1 S C2 = map (short_has T C1 S C2) (down (half T S))

-- the short piece has 1, and then ever more up to half
unfoldable pub rising_offers : ℕ → ℕ → ℕ → ℕ → List ℕ
rising_offers T C1 S C2 = map (short_has T C1 S C2) (range_with_len 1 (half T S))
