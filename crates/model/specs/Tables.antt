-- Worked examples of the definitions.
use Rattle.std.specs.Prelude.{◌≡◌, ℕ, List, [], ◌∷◌, map, replicate}
use Rattle.model.specs.declared.refusal.Refusal.TheVariants.{TooSoon}
use Rattle.model.specs.Task.{Task}
use Rattle.model.specs.Demand.{demand}
use Rattle.model.specs.Rows.{plain, settled, bounded}
use Rattle.model.specs.Splits.{equal_split, proportional_split}
use Rattle.model.specs.Slow.{slowed}
use Rattle.model.specs.Verdict.{accepted, overloaded, verdict}
use Rattle.model.specs.Machine.{Call, wake, tick, done, ran, idle, refused, State, opened, step, after_all, answers}

-- two tasks that the machine just serves
abbrev pub two : List Task
two = plain 5 5 1 ∷ settled 10 1 8 1 1 ∷ []

-- both woken at 0
abbrev pub woken : State
woken = after_all two (opened two 0) (wake 0 ∷ wake 1 ∷ [])

abbrev pub ticks : ℕ → List Call
ticks n = replicate n tick

abbrev pub after_ticks : ℕ → State
after_ticks n = after_all two woken (ticks n)

pub record Tables : Type 0 where
  pub settled_demand : map (demand (settled 20 2 4 3 4)) (3 ∷ 4 ∷ 12 ∷ 16 ∷ 23 ∷ 24 ∷ 31 ∷ 32 ∷ 36 ∷ []) ≡ 0 ∷ 2 ∷ 3 ∷ 5 ∷ 5 ∷ 7 ∷ 7 ∷ 8 ∷ 10 ∷ []
  pub bounded_demand : map (demand (bounded 30 4 7 9 8 8)) (7 ∷ 8 ∷ 14 ∷ 22 ∷ 37 ∷ 38 ∷ 44 ∷ []) ≡ 0 ∷ 4 ∷ 7 ∷ 11 ∷ 11 ∷ 13 ∷ 16 ∷ []
  pub two_pass : verdict two ≡ accepted
  pub early_due : verdict (plain 5 1 1 ∷ settled 10 1 8 1 1 ∷ []) ≡ overloaded 1
  pub two_slowed : verdict (slowed 2 two) ≡ overloaded 1
  pub no_tasks : verdict [] ≡ accepted
  pub full : verdict (plain 5 5 5 ∷ []) ≡ accepted
  pub one_more : verdict (plain 5 5 5 ∷ plain 5 5 1 ∷ []) ≡ overloaded 5
  pub equal_first : equal_split 10 1 3 2 ≡ 3
  pub equal_second : equal_split 10 2 3 1 ≡ 4
  pub proportional : proportional_split 30 2 5 3 ≡ 10
  pub both_wake : answers two (opened two 0) (wake 0 ∷ wake 1 ∷ []) ≡ done ∷ done ∷ []
  pub ten_answers : answers two woken (ticks 10) ≡ ran 1 1 ∷ ran 0 1 ∷ idle ∷ idle ∷ idle ∷ idle ∷ idle ∷ idle ∷ idle ∷ ran 1 2 ∷ []
  pub ten_now : (after_ticks 10).now ≡ 10
  pub wake_at_9 : (step two (after_ticks 9) (wake 1)).answer ≡ refused TooSoon
  pub wake_at_10 : (step two (after_ticks 10) (wake 1)).answer ≡ done
