-- Tasks as loads tell them, costs above 10^15 as 10^15, and why that is enough for the machine and for the check.
use Rattle.std.specs.Prelude.{◌≡◌, ℕ, ◌+◌, ◌^◌, ◌<◌, ◌↔◌, List, [], ◌∷◌, map}
use Rattle.model.specs.Task.{Piece, Task}
use Rattle.model.specs.Demand.{demand, demand_of_all}
use Rattle.model.specs.Asked.{told}
use Rattle.model.specs.Machine.{Call, Progress, State, opened, after_all, answers}

abbrev pub told_piece : Piece → Piece
told_piece p = record { ready = p.ready; due = p.due; cap = told p.cap }

abbrev pub told_task : Task → Task
told_task k = record { spacing = k.spacing; total = told k.total; pieces = map told_piece k.pieces }

abbrev pub told_tasks : List Task → List Task
told_tasks ks = map told_task ks

-- a state in which the unfinished pieces are told ones
abbrev pub told_progress : Progress → Progress
told_progress g = record { last = g.last; left = map told_piece g.left; ran_now = g.ran_now; ran_before = g.ran_before }

abbrev pub told_state : State → State
told_state s = record { now = s.now; miss = s.miss; progress = map told_progress s.progress }

-- the sum of told demands
unfoldable pub told_demand_of_all : List Task → ℕ → ℕ
told_demand_of_all [] t = 0
told_demand_of_all (k ∷ ks) t = told (demand k t) + told_demand_of_all ks t

pub record ToldSuffices (ks : List Task) : Type 0 where
  -- a machine on the told tasks answers every run of calls as one on the tasks themselves
  pub same_answers : (start : ℕ) (cs : List Call) → answers (told_tasks ks) (opened (told_tasks ks) start) cs ≡ answers ks (opened ks start) cs
  -- and is in the same state, but for the caps
  pub same_states : (start : ℕ) (cs : List Call) → after_all (told_tasks ks) (opened (told_tasks ks) start) cs ≡ told_state (after_all ks (opened ks start) cs)
  -- told demands exceed a length exactly when the demands do
  pub same_excess : (t : ℕ) → t < 10 ^ 15 → (t < told_demand_of_all ks t) ↔ (t < demand_of_all ks t)
