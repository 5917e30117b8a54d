-- The tasks that rows mean, and the demand of each kind by its own formula.
-- T is a spacing, D a due offset, S a wait, D1 a split, and C, C1 and C2 are costs.
use Rattle.std.specs.Prelude.{ℕ, ◌+◌, ◌-◌, ◌*◌, ◌/◌, ◌%◌, ◌<◌, ◌≤◌, max, cond, [], ◌∷◌, nat_le, nat_lt}
use Rattle.model.specs.Task.{Piece, Task}

-- n is from low to high
abbrev pub From : ℕ → ℕ → ℕ → Type 0
From low n high = (low ≤ n) × (n ≤ high)

abbrev pub piece : ℕ → ℕ → ℕ → Piece
piece r d c = record { ready = r; due = d; cap = c }

-- one piece of at most C, due D after the wake
abbrev pub plain : ℕ → ℕ → ℕ → Task
plain T D C = record { spacing = T; total = C; pieces = piece 0 D C ∷ [] }

abbrev pub LawfulPlain : ℕ → ℕ → ℕ → Type 0
LawfulPlain T D C = From 1 T 10000 × From 1 D T × From 1 C D

abbrev pub plain_asks : ℕ → ℕ → ℕ → ℕ → ℕ
plain_asks T D C t = cond (nat_lt t D) 0 (C * ((t - D) / T + 1))

-- two pieces of at most C1 and C2, in all at most C: the first due D1 after the wake, the second ready S later and due at the spacing
abbrev pub paired : ℕ → ℕ → ℕ → ℕ → ℕ → ℕ → Task
paired T S D1 C1 C2 C = record { spacing = T; total = C; pieces = piece 0 D1 C1 ∷ piece (D1 + S) T C2 ∷ [] }

abbrev pub LawfulPaired : ℕ → ℕ → ℕ → ℕ → ℕ → ℕ → Type 0
LawfulPaired T S D1 C1 C2 C = From 1 T 10000 × ((1 ≤ C1) × (1 ≤ S) × (1 ≤ C2)) × ((C1 < C) × (C2 ≤ C) × (C ≤ C1 + C2)) × (C + S ≤ T) × From 1 D1 (T - S - 1)

-- two costs with a wait between them, which fit the spacing
abbrev pub LawfulOpen : ℕ → ℕ → ℕ → ℕ → Type 0
LawfulOpen T C1 S C2 = From 1 T 10000 × ((1 ≤ C1) × (1 ≤ S) × (1 ≤ C2)) × (C1 + S + C2 ≤ T)

-- an open row with a split: both pieces may cost their caps
abbrev pub settled : ℕ → ℕ → ℕ → ℕ → ℕ → Task
settled T C1 S C2 D1 = paired T S D1 C1 C2 (C1 + C2)

-- two caps, and a total that may be below their sum
abbrev pub bounded : ℕ → ℕ → ℕ → ℕ → ℕ → ℕ → Task
bounded T C1 C2 C S D1 = paired T S D1 C1 C2 C

-- windows that begin at a wake, and windows that begin where a second piece is ready, T - S - D1 before the next wake
abbrev pub first : ℕ → ℕ → ℕ → ℕ → ℕ → ℕ
first T D1 C1 C t = (t / T) * C + cond (nat_le D1 (t % T)) C1 0

abbrev pub second : ℕ → ℕ → ℕ → ℕ → ℕ → ℕ → ℕ → ℕ
second T S D1 C1 C2 C t = cond (nat_lt t ((T - S) - D1)) 0 (C2 + first T D1 C1 C (t - ((T - S) - D1)))

abbrev pub paired_asks : ℕ → ℕ → ℕ → ℕ → ℕ → ℕ → ℕ → ℕ
paired_asks T S D1 C1 C2 C t = max (first T D1 C1 C t) (second T S D1 C1 C2 C t)
