-- The first of some rows that breaks a rule.
use Rattle.std.proofs.Common.{◌≡◌, ℕ, ◌+◌, ◌<◌, ◌≤◌, List, map, length, get_or, take, drop, Some, None, Option, sym, ◌∙◌}
use Rattle.std.proofs.lemmas.List.{at_drop_more, at_drop_all, map_more, take_all}
use Rattle.std.proofs.lemmas.Bool.{le-leb, lt-leb}
use Rattle.model.specs.declared.refusal.Refusal.{Refusal}
use Rattle.model.specs.declared.refusal.Refusal.TheVariants.{TooManyRows}
use Rattle.model.specs.Rules.{either, first_fault, table_fault}
use Rattle.model.specs.Task.{Task}

module _ {R : Type 0} (fault : R → Option Refusal) (rows : List R) where
  pub fault_many : 32 < length rows → table_fault fault rows ≡ Some TooManyRows
  fault_many h = rw (lt-leb (length rows) 32 h)

  few : length rows ≤ 32 → table_fault fault rows ≡ first_fault fault rows
  few h = rw (le-leb (length rows) 32 h)

  pub fault_none : (i : ℕ) → length rows ≤ 32 → length rows ≤ i → first_fault fault (drop i rows) ≡ first_fault fault rows → table_fault fault rows ≡ None
  fault_none i h all inv = few h ∙ sym inv ∙ at_drop_all (first_fault fault) rows i all

  module _ (i : ℕ) (x : R) (h : i < length rows) (is : x ≡ get_or rows i x) (inv : first_fault fault (drop i rows) ≡ first_fault fault rows) where
    here : first_fault fault rows ≡ either (fault x) (first_fault fault (drop (i + 1) rows))
    here = sym inv ∙ (rw (← is) at (at_drop_more (first_fault fault) rows i x h))

    pub fault_next : fault x ≡ None → first_fault fault (drop (i + 1) rows) ≡ first_fault fault rows
    fault_next e = sym (here ∙ rw e)

    pub fault_found : (r : Refusal) → length rows ≤ 32 → fault x ≡ Some r → table_fault fault rows ≡ Some r
    fault_found r low e = few low ∙ here ∙ rw e

-- the tasks of rows that are tested one by one are those that the rows spell
module _ {R : Type 0} (task own : R → Task) (rows : List R) where
  pub own_more : (i : ℕ) (x : R) → i < length rows → x ≡ get_or rows i x → task x ≡ own x → map task (take i rows) ≡ map own (take i rows) → map task (take (i + 1) rows) ≡ map own (take (i + 1) rows)
  own_more i x h is e inv = cc (map_more task rows i x h, map_more own rows i x h)

  pub own_all : (i : ℕ) → length rows ≤ i → map task (take i rows) ≡ map own (take i rows) → map task rows ≡ map own rows
  own_all i h inv = cc (take_all i rows h)
