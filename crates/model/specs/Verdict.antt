-- What the check answers of a list of tasks.
use Rattle.std.specs.Prelude.{ℕ, zero, suc, ◌+◌, ◌-◌, ◌*◌, cond, List, length, Some, None, Ok, Err, Option, Result, nat_lt}
use Rattle.model.specs.declared.refusal.Refusal.{Refusal}
use Rattle.model.specs.declared.refusal.Refusal.TheVariants.{TooManyTasks, NoRound, Overloaded}
use Rattle.model.specs.Refusals.{number}
use Rattle.model.specs.Task.{Task}
use Rattle.model.specs.Demand.{demand_of_all}
use Rattle.model.specs.Round.{round, round_told}

abbrev pub Verdict : Type 0
Verdict = Result (Unit {0}) Refusal

abbrev pub accepted : Verdict
accepted = Ok tt

-- t is the first length that demand exceeds
abbrev pub overloaded : ℕ → Verdict
overloaded t = Err (Overloaded t)

abbrev pub too_many : Verdict
too_many = Err TooManyTasks

abbrev pub no_round : Verdict
no_round = Err NoRound

-- the number of a refusal, 0 where the tasks are accepted
abbrev pub verdict_number : Verdict → ℕ
verdict_number (Ok _) = 0
verdict_number (Err e) = number e

-- the first of n lengths from t on that demand exceeds
unfoldable pub first_over : List Task → ℕ → ℕ → Option ℕ
first_over ks zero t = None
first_over ks (suc n) t = cond (nat_lt t (demand_of_all ks t)) (Some t) (first_over ks n (t + 1))

abbrev pub by_length : Option ℕ → Verdict
by_length None = accepted
by_length (Some t) = overloaded t

-- the lengths 1, 2, .. below twice the round
abbrev pub by_round : List Task → Option ℕ → Verdict
by_round ks None = no_round
by_round ks (Some n) = by_length (first_over ks (2 * n - 1) 1)

unfoldable pub verdict : List Task → Verdict
verdict ks = cond (nat_lt 32 (length ks)) too_many (by_round ks (round_told (round ks)))
