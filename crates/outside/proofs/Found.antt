-- Which task of a pen is found under a number, and its demand as it is told.
use Rattle.std.proofs.Common.{◌≡◌, ℕ, ◌+◌, ◌-◌, ◌/◌, ◌≤◌, Some, None, sym, refl, ap, ◌∙◌, inl, inr, div-le_self, arith}
use Rattle.std.proofs.lemmas.Nat.{mul-le}
use Rattle.std.proofs.lemmas.Option.{slice_get_past}
use Rattle.std.proofs.lemmas.Bool.{cases_lt}
use Rattle.std.proofs.lemmas.Bool.Decides.{nat_tests}
use Rattle.model.specs.Asked.{found, demand_told}
use Rattle.model.specs.Demand.{demand}
use Rattle.model.specs.Rows.{From, plain_asks}
use Rattle.model.specs.Round.{gcd_in, lcm, round, round_told}
use Rattle.model.specs.Task.{Task}
use Rattle.model.proofs.Asked.Places.{found_in, found_past}
use Rattle.model.proofs.Demand.Rows.{plain_demand as plain_formula}
use Rattle.model.proofs.Tests.{if_le}
use Rattle.outside.specs.Pen.{clock_task, stroke_task, pen_tasks}

module _ (a b : ℕ) where
  pub found_clock : (i : ℕ) → i ≡ 0 → found (pen_tasks a b) i ≡ Some (clock_task a)
  found_clock i e = ap (found (pen_tasks a b)) e ∙ found_in (pen_tasks a b) 0 (omega arith)

  pub found_stroke : (i : ℕ) → i ≡ 1 → found (pen_tasks a b) i ≡ Some (stroke_task b)
  found_stroke i e = ap (found (pen_tasks a b)) e ∙ found_in (pen_tasks a b) 1 (omega arith)

  pub found_nothing : (i : ℕ) → 2 ≤ i → found (pen_tasks a b) i ≡ None
  found_nothing i h = elim (cases_lt i 32) [ inl l ↦ found_in (pen_tasks a b) i l ∙ slice_get_past (pen_tasks a b) i (omega arith) | inr l ↦ found_past (pen_tasks a b) i l ]

  pub round_is : Some 60 ≡ round_told (round (pen_tasks a b))
  unfolding round lcm gcd_in
  round_is = refl

-- the demand of the clock by its formula, told
told_at : (k : Task) (t n : ℕ) → t ≤ 1000000 → n ≤ 100000000000000 → n ≡ demand k t → Some n ≡ demand_told (Some k) t
told_at k t n h top e = grind (arith, nat_tests)

module _ (a b : ℕ) (ok : From 1 a 20) (i t n : ℕ) (h : t ≤ 1000000) where
  pub clock_told : i ≡ 0 → n ≡ plain_asks 20 20 a t → Some n ≡ demand_told (found (pen_tasks a b) i) t
  clock_told e is =
      let few : (t - 20) / 20 + 1 ≤ 1000001 = omega (arith, div-le_self (t - 20) 20) in
      let top : n ≤ 100000000000000 = omega (arith, is, if_le, mul-le a ((t - 20) / 20 + 1) 20 1000001 (omega arith) few) in
      told_at (clock_task a) t n h top (is ∙ sym (plain_formula 20 20 a (omega arith) t)) ∙ ap (λ o. demand_told o t) (sym (found_clock a b i e))

  pub stroke_told : i ≡ 1 → n ≡ demand (stroke_task b) t → n ≤ 15000930 → Some n ≡ demand_told (found (pen_tasks a b) i) t
  stroke_told e is top = told_at (stroke_task b) t n h (omega arith) is ∙ ap (λ o. demand_told o t) (sym (found_stroke a b i e))

  pub nothing_told : 2 ≤ i → None ≡ demand_told (found (pen_tasks a b) i) t
  nothing_told e = ap (λ o. demand_told o t) (sym (found_nothing a b i e))
