-- The worked examples, computed.
use Rattle.std.proofs.Common.{◌≡◌, ℕ, [], ◌∷◌, Some, None, refl, ap, ◌∙◌}
use Rattle.model.specs.Demand.{from_wake, from_piece, demand}
use Rattle.model.specs.Rows.{piece}
use Rattle.model.specs.Round.{gcd_in, lcm, round}
use Rattle.model.specs.Verdict.{first_over, verdict}
use Rattle.model.specs.Machine.{State, wake, tick, ran, idle, step, after_all, answers}
use Rattle.model.specs.Tables.{two, woken, ticks, after_ticks, Tables}

-- the states from 2 to 9, written out
abbrev waiting : ℕ → State
waiting n = record {
  now = n;
  miss = None;
  progress = record { last = Some 0; left = []; ran_now = 0; ran_before = 1 } ∷ record { last = Some 0; left = piece 9 10 1 ∷ []; ran_now = 0; ran_before = 1 } ∷ [];
}

at_2 : after_ticks 2 ≡ waiting 2
at_2 = refl

to_5 : after_all two (waiting 2) (ticks 3) ≡ waiting 5
to_5 = refl

to_9 : after_all two (waiting 5) (ticks 4) ≡ waiting 9
to_9 = refl

at_9 : after_ticks 9 ≡ waiting 9
at_9 = ap (λ s. after_all two s (ticks 7)) at_2 ∙ ap (λ s. after_all two s (ticks 4)) to_5 ∙ to_9

at_10 : after_ticks 10 ≡ (step two (waiting 9) tick).after
at_10 = ap (λ s. after_all two s (ticks 8)) at_2 ∙ ap (λ s. after_all two s (ticks 5)) to_5 ∙ ap (λ s. after_all two s (ticks 1)) to_9

ten : answers two woken (ticks 10) ≡ ran 1 1 ∷ ran 0 1 ∷ idle ∷ idle ∷ idle ∷ idle ∷ idle ∷ idle ∷ idle ∷ ran 1 2 ∷ []
ten =
    ap (λ s. ran 1 1 ∷ ran 0 1 ∷ answers two s (ticks 8)) at_2 ∙
    ap (λ s. ran 1 1 ∷ ran 0 1 ∷ idle ∷ idle ∷ idle ∷ answers two s (ticks 5)) to_5 ∙
    ap (λ s. ran 1 1 ∷ ran 0 1 ∷ idle ∷ idle ∷ idle ∷ idle ∷ idle ∷ idle ∷ idle ∷ answers two s (ticks 1)) to_9

pub tables : Tables
unfolding from_wake from_piece demand gcd_in lcm round first_over verdict
tables = record {
  settled_demand = refl;
  bounded_demand = refl;
  two_pass = refl;
  early_due = refl;
  two_slowed = refl;
  no_tasks = refl;
  full = refl;
  one_more = refl;
  equal_first = refl;
  equal_second = refl;
  proportional = refl;
  both_wake = refl;
  ten_answers = ten;
  ten_now = ap (λ s. s.now) at_10;
  wake_at_9 = ap (λ s. (step two s (wake 1)).answer) at_9;
  wake_at_10 = ap (λ s. (step two s (wake 1)).answer) at_10;
}
