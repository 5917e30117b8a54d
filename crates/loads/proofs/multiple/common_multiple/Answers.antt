use Rattle.std.proofs.Common.{◌≡◌, ℕ, ◌*◌, ◌/◌, sym, ap, ◌∙◌, mul-zero, zero-mul, arith, rules}
use native.Mathlib.Nat.{zero-div}
use Rattle.model.specs.Round.{lcm, gcd}
use Rattle.model.proofs.Round.Lcm.{gcd_pos}
use Rattle.model.proofs.Round.Told.{told_some, told_none}
use Rattle.loads.proofs.multiple.common_multiple.Goals as goal

lcm_from_zero : (a b : ℕ) → a ≡ 0 → 0 ≡ lcm a b
unfolding lcm
lcm_from_zero a b e = sym (ap (λ n. n / gcd a b * b) e ∙ ap (λ n. n * b) (zero-div (gcd a b)) ∙ zero-mul b)

lcm_to_zero : (a b : ℕ) → b ≡ 0 → 0 ≡ lcm a b
unfolding lcm
lcm_to_zero a b e = sym (ap (λ n. a / gcd a b * n) e ∙ mul-zero (a / gcd a b))

lcm_by : (a b g : ℕ) → g ≡ gcd a b → a / g * b ≡ lcm a b
unfolding lcm
lcm_by a b g e = ap (λ n. a / n * b) e

pub nonzero_div-a : goal.nonzero_div-a
nonzero_div-a c = rw c.greatest_divisor.ensures (gcd_pos c.args.a c.args.b (omega arith) (omega arith))

pub returns-then-a-eq0 : goal.returns-then-a-eq0
returns-then-a-eq0 c = search (rules, told_some, lcm_from_zero, lcm_to_zero)

pub returns-in_err-least : goal.returns-in_err-least
returns-in_err-least c = search (rules, told_none, lcm_by)

pub returns-then-least-le100000 : goal.returns-then-least-le100000
returns-then-least-le100000 c = search (rules, told_some, lcm_by)

pub returns-else-least-le100000 : goal.returns-else-least-le100000
returns-else-least-le100000 c = search (rules, told_none, lcm_by)
