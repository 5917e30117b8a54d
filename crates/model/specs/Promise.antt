-- What a verdict on a list of tasks says of every machine opened on it.
use Rattle.std.specs.Prelude.{◌≡◌, ℕ, ◌<◌, ◌≤◌, true, ◌↔◌, List, [], ◌∷◌, map, length, ◌≢◌}
use Rattle.std.specs.List.{AllByRecursion}
use Rattle.model.specs.Task.{Piece, Task, AllLawful}
use Rattle.model.specs.Demand.{demand_of_all}
use Rattle.model.specs.Settled.{Settled, LawfulSettled, Even, equally, Order, joined}
use Rattle.model.specs.Slow.{slowed}
use Rattle.model.specs.Round.{round}
use Rattle.model.specs.Verdict.{Verdict, accepted, overloaded, verdict_number, verdict}
use Rattle.model.specs.Machine.{Call, Answer, refused_by, State, Progress, since, opened, after_all, answers, progress_at, stopped}

-- the due instant of no unfinished piece has come
abbrev pub DueLater : ℕ → Progress → List Piece → Type 0
DueLater now g [] = Unit {0}
DueLater now g (p ∷ ps) = (now < since g.last p.due) × DueLater now g ps

abbrev pub NoneDue : State → Type 0
NoneDue s = (i : ℕ) → i < length s.progress → DueLater s.now (progress_at s i) (progress_at s i).left

-- no wake was refused because a job was open
abbrev pub NeverOpen : List Answer → Type 0
NeverOpen [] = Unit {0}
NeverOpen (a ∷ rest) = (refused_by a ≢ 19) × NeverOpen rest

-- both, whatever the calls
abbrev pub Holds : List Task → ℕ → Type 0
Holds ks start = (cs : List Call) → NoneDue (after_all ks (opened ks start) cs) × NeverOpen (answers ks (opened ks start) cs)

-- some calls leave the machine stopped at a miss
abbrev pub CanMiss : List Task → ℕ → Type 0
CanMiss ks start = (cs : List Call) × (stopped (after_all ks (opened ks start) cs).miss ≡ true)

-- t is the first length that demand exceeds
pub record FirstExceeded (ks : List Task) (t : ℕ) : Type 0 where
  pub exceeded : t < demand_of_all ks t
  pub none_before : (s : ℕ) → s < t → demand_of_all ks s ≤ s

-- what the verdict v on ks says
pub record Agreement (ks : List Task) (v : Verdict) : Type 0 where
  pub accepted_holds : v ≡ accepted → (start : ℕ) → Holds ks start
  pub overloaded_first : (t : ℕ) → v ≡ overloaded t → FirstExceeded ks t
  pub overloaded_misses : (t : ℕ) → v ≡ overloaded t → (start : ℕ) → start ≤ 999999999700000 → CanMiss ks start
  -- rows and further tasks that are accepted at half speed are accepted with equal splits
  pub half_speed : (o : Order) (rows : List Settled) (others : List Task) → AllByRecursion LawfulSettled rows → AllByRecursion Even rows → AllLawful others → ks ≡ slowed 2 (joined o rows others) → v ≡ accepted → verdict (joined o (map equally rows) others) ≡ accepted
  pub too_many_when : (verdict_number v ≡ 10) ↔ (32 < length ks)
  pub no_round_when : (verdict_number v ≡ 11) ↔ ((length ks ≤ 32) × (100000 < round ks))
