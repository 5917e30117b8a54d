-- The demand of rows as it is worked out, and that it is the greatest.
use Rattle.std.proofs.Common.{◌≡◌, ℕ, ◌+◌, ◌-◌, ◌/◌, ◌<◌, ◌≤◌, Some, Option, sym, refl, ◌∙◌, div-le_self, arith, MatchOption}
use Rattle.std.proofs.lemmas.Nat.{mul-le}
use Rattle.std.proofs.lemmas.Bool.Decides.{nat_tests}
use Rattle.model.specs.Asked.{demand_told}
use Rattle.model.specs.Demand.{demand}
use Rattle.model.specs.Rows.{plain, LawfulPlain, plain_asks, first, paired, LawfulPaired, paired_asks}
use Rattle.model.specs.Run.{Greatest}
use Rattle.model.specs.Task.{Task, Lawful}
use Rattle.model.proofs.Demand.Greatest.{greatest}
use Rattle.model.proofs.Demand.Rows.{plain_lawful, plain_demand, paired_lawful, paired_demand}
use Rattle.model.proofs.Tests.{if_le}

-- the answer r to the question for the demand of k at t
pub record Asked (k : Task) (t : ℕ) (r : Option ℕ) : Type 0 where
  pub value : r ≡ demand_told (Some k) t
  pub greatest : MatchOption r (1000000 < t) (Greatest k t)

near : (k : Task) (t n : ℕ) → Lawful k → t ≤ 1000000 → n ≡ demand k t → n ≤ 100000000000000 → Asked k t (Some n)
near k t n law h e top = record { value = grind (arith, nat_tests); greatest = rw e (greatest k law t) }

module _ (T D C : ℕ) (l : LawfulPlain T D C) (t : ℕ) (h : t ≤ 1000000) where
  plain_top : plain_asks T D C t ≤ 100000000000000
  plain_top =
      let few : (t - D) / T + 1 ≤ 1000001 = omega (arith, div-le_self (t - D) T) in
      omega (arith, if_le, mul-le C ((t - D) / T + 1) 10000 1000001 (omega arith) few)

  pub plain_asked : (n : ℕ) → n ≡ plain_asks T D C t → Asked (plain T D C) t (Some n)
  plain_asked n e = near (plain T D C) t n (plain_lawful T D C l) h (e ∙ sym (plain_demand T D C l t)) (omega (arith, e, plain_top))

module _ (T S D1 C1 C2 C : ℕ) (l : LawfulPaired T S D1 C1 C2 C) where
  -- a sum that starts at a wake stays small
  pub first_top : (t n : ℕ) → t ≤ 1000000 → n ≡ first T D1 C1 C t → n ≤ 10000010000
  first_top t n h e =
      let few : t / T ≤ 1000000 = omega (arith, div-le_self t T) in
      omega (arith, e, if_le, mul-le (t / T) C 1000000 10000 few (omega arith))

  pub paired_asked : (t n : ℕ) → t ≤ 1000000 → n ≡ paired_asks T S D1 C1 C2 C t → Asked (paired T S D1 C1 C2 C) t (Some n)
  paired_asked t n h e =
      let a = first_top t (first T D1 C1 C t) h refl in
      let b = first_top (t - ((T - S) - D1)) (first T D1 C1 C (t - ((T - S) - D1))) (omega arith) refl in
      near _ t n (paired_lawful T S D1 C1 C2 C l) h (e ∙ sym (paired_demand T S D1 C1 C2 C l t)) (omega (arith, e, if_le, a, b))
