-- The rules of rows and tables, in the order in which they are tested, and the task that a row of any numbers means.
-- T is a spacing, D a due offset, S a wait, D1 a split, and C, C1 and C2 are costs.
use Rattle.std.specs.Prelude.{ℕ, ◌+◌, ◌-◌, Bool, cond, ◌&&◌, List, [], ◌∷◌, length, Some, None, Option, nat_le, nat_lt}
use Rattle.model.specs.declared.refusal.Refusal.{Refusal}
use Rattle.model.specs.declared.refusal.Refusal.TheVariants.{Spacing, Due, Cost, ZeroPart, TooLong, Split, Total, Factor, TooManyRows}
use Rattle.model.specs.Task.{Task}
use Rattle.model.specs.Rows.{plain, settled, bounded}

abbrev pub within : ℕ → ℕ → ℕ → Bool
within low n high = nat_le low n && nat_le n high

-- a refusal, unless the rule is kept; then what the next rules say
abbrev pub unless : Refusal → Bool → Option Refusal → Option Refusal
unless e kept next = cond kept next (Some e)

-- the first of two refusals
abbrev pub either : Option Refusal → Option Refusal → Option Refusal
either None next = next
either (Some e) next = Some e

abbrev pub plain_fault : ℕ → ℕ → ℕ → Option Refusal
plain_fault T D C = unless Spacing (within 1 T 10000) (unless Due (within 1 D T) (unless Cost (within 1 C D) None))

abbrev pub no_zero : ℕ → ℕ → ℕ → Bool
no_zero C1 S C2 = nat_le 1 C1 && (nat_le 1 S && nat_le 1 C2)

abbrev pub open_fault : ℕ → ℕ → ℕ → ℕ → Option Refusal
open_fault T C1 S C2 = unless Spacing (within 1 T 10000) (unless ZeroPart (no_zero C1 S C2) (unless TooLong (nat_le (C1 + S + C2) T) None))

abbrev pub split_fault : ℕ → ℕ → ℕ → Option Refusal
split_fault T S D1 = unless Split (within 1 D1 (T - S - 1)) None

abbrev pub settled_fault : ℕ → ℕ → ℕ → ℕ → ℕ → Option Refusal
settled_fault T C1 S C2 D1 = either (open_fault T C1 S C2) (split_fault T S D1)

abbrev pub bounded_fault : ℕ → ℕ → ℕ → ℕ → ℕ → ℕ → Option Refusal
bounded_fault T C1 C2 C S D1 = unless Spacing (within 1 T 10000) (unless ZeroPart (no_zero C1 S C2) (unless Total (nat_lt C1 C && (nat_le C2 C && nat_le C (C1 + C2))) (unless TooLong (nat_le (C + S) T) (split_fault T S D1))))

abbrev pub factor_fault : ℕ → Option Refusal
factor_fault n = unless Factor (within 2 n 8) None

-- a row that breaks a rule means the least row of its kind, so that every row means a lawful task;
-- no table is made of such rows
abbrev pub or_least : Option Refusal → Task → Task → Task
or_least None own least = own
or_least (Some e) own least = least

unfoldable pub plain_task : ℕ → ℕ → ℕ → Task
plain_task T D C = or_least (plain_fault T D C) (plain T D C) (plain 1 1 1)

unfoldable pub settled_task : ℕ → ℕ → ℕ → ℕ → ℕ → Task
settled_task T C1 S C2 D1 = or_least (settled_fault T C1 S C2 D1) (settled T C1 S C2 D1) (settled 3 1 1 1 1)

unfoldable pub bounded_task : ℕ → ℕ → ℕ → ℕ → ℕ → ℕ → Task
bounded_task T C1 C2 C S D1 = or_least (bounded_fault T C1 C2 C S D1) (bounded T C1 C2 C S D1) (bounded 3 1 1 2 1 1)

-- the first refusal of some rows, by the refusal of each
abbrev pub first_fault : {R : Type 0} → (R → Option Refusal) → List R → Option Refusal
first_fault fault [] = None
first_fault fault (r ∷ rows) = either (fault r) (first_fault fault rows)

abbrev pub table_fault : {R : Type 0} → (R → Option Refusal) → List R → Option Refusal
table_fault fault rows = unless TooManyRows (nat_le (length rows) 32) (first_fault fault rows)
