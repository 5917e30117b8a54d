-- The laws of rows, demand, the round and the tick.
use Rattle.std.specs.Prelude.{◌≡◌, ℕ, ◌+◌, ◌*◌, ◌<◌, ◌≤◌, ◌⊎◌, ◌↔◌, List, ◌∷◌, None}
use Rattle.std.specs.Int.{◌∣◌}
use Rattle.model.specs.Task.{Piece, Task, Lawful, AllLawful}
use Rattle.model.specs.Run.{Greatest, GreatestOfAll}
use Rattle.model.specs.Demand.{demand, demand_of_all}
use Rattle.model.specs.Rows.{plain, LawfulPlain, plain_asks, LawfulOpen, paired, LawfulPaired, paired_asks}
use Rattle.model.specs.Rules.{plain_fault, open_fault, settled_fault, bounded_fault}
use Rattle.model.specs.Slow.{slow}
use Rattle.model.specs.Round.{round, Common}
use Rattle.model.specs.Machine.{Answer, ran, idle, missed, State, since, progress_at, tick, step}

-- the demand of a task, and of a list of tasks, is the greatest sum that lawful runs can put into a window of that length
abbrev pub DemandIsGreatest : Type 0
DemandIsGreatest = ((k : Task) → Lawful k → (t : ℕ) → Greatest k t (demand k t)) × ((ks : List Task) → AllLawful ks → (t : ℕ) → GreatestOfAll ks t (demand_of_all ks t))

pub record DemandLaws (k : Task) : Type 0 where
  pub none : demand k 0 ≡ 0
  pub monotone : (s t : ℕ) → s ≤ t → demand k s ≤ demand k t
  -- from one spacing on, one spacing more adds the total
  pub periodic : (t : ℕ) → k.spacing ≤ t → demand k (t + k.spacing) ≡ demand k t + k.total
  pub linear : (n t : ℕ) → demand (slow n k) t ≡ n * demand k t

abbrev pub DemandKeepsLaws : Type 0
DemandKeepsLaws = (k : Task) → Lawful k → DemandLaws k

-- the formulas of plain rows and of rows of two pieces give the demand
abbrev pub RowsDemand : Type 0
RowsDemand =
    ((T D C : ℕ) → LawfulPlain T D C → (t : ℕ) → demand (plain T D C) t ≡ plain_asks T D C t) ×
    ((T S D1 C1 C2 C : ℕ) → LawfulPaired T S D1 C1 C2 C → (t : ℕ) → demand (paired T S D1 C1 C2 C) t ≡ paired_asks T S D1 C1 C2 C t)

-- a row is refused exactly where its numbers break a rule, and the rules make a lawful task of it
pub record RulesMean : Type 0 where
  pub plain_rules : (T D C : ℕ) → (plain_fault T D C ≡ None) ↔ LawfulPlain T D C
  pub plain_lawful : (T D C : ℕ) → LawfulPlain T D C → Lawful (plain T D C)
  pub open_rules : (T C1 S C2 : ℕ) → (open_fault T C1 S C2 ≡ None) ↔ LawfulOpen T C1 S C2
  pub settled_rules : (T C1 S C2 D1 : ℕ) → (settled_fault T C1 S C2 D1 ≡ None) ↔ LawfulPaired T S D1 C1 C2 (C1 + C2)
  pub bounded_rules : (T C1 C2 C S D1 : ℕ) → (bounded_fault T C1 C2 C S D1 ≡ None) ↔ LawfulPaired T S D1 C1 C2 C
  pub paired_lawful : (T S D1 C1 C2 C : ℕ) → LawfulPaired T S D1 C1 C2 C → Lawful (paired T S D1 C1 C2 C)

-- the round is a common multiple of the spacings, and divides each
pub record LeastCommon (ks : List Task) (n : ℕ) : Type 0 where
  pub low : 1 ≤ n
  pub common : Common ks n
  pub least : (m : ℕ) → Common ks m → n ∣ m

abbrev pub RoundIsLeast : Type 0
RoundIsLeast = (ks : List Task) → AllLawful ks → LeastCommon ks (round ks)

-- where no length below twice the round is exceeded, none is
abbrev pub TwoRoundsTell : Type 0
TwoRoundsTell = (ks : List Task) → AllLawful ks → ((t : ℕ) → t < 2 * round ks → demand_of_all ks t ≤ t) → (t : ℕ) → demand_of_all ks t ≤ t

-- p is the first unfinished piece of task i
abbrev pub Unfinished : State → ℕ → Piece → Type 0
Unfinished s i p = (rest : List Piece) × ((progress_at s i).left ≡ p ∷ rest)

-- task i has an unfinished piece whose ready instant has come, due at d
abbrev pub Ready : State → ℕ → ℕ → Type 0
Ready s i d = (p : Piece) × Unfinished s i p × (since (progress_at s i).last p.ready ≤ s.now) × (since (progress_at s i).last p.due ≡ d)

-- task i has an unfinished piece whose due instant d has come
abbrev pub Late : State → ℕ → ℕ → Type 0
Late s i d = (p : Piece) × Unfinished s i p × (d ≤ s.now) × (since (progress_at s i).last p.due ≡ d)

-- of the tasks with a due instant by P, i has the earliest, and the lowest number on a tie
abbrev pub EarliestBy : (ℕ → ℕ → Type 0) → ℕ → Type 0
EarliestBy P i = (d : ℕ) × P i d × ((j e : ℕ) → P j e → (d < e) ⊎ ((d ≡ e) × (i ≤ j)))

-- what the answer a of a tick in the state s says: earliest deadline first
pub record TickSays (s : State) (a : Answer) : Type 0 where
  pub runs_earliest : (i p : ℕ) → a ≡ ran i p → EarliestBy (Ready s) i
  pub runs_in_time : (i p : ℕ) → a ≡ ran i p → (j e : ℕ) → Late s j e → ⊥
  pub idles_unready : a ≡ idle → (j e : ℕ) → Ready s j e → ⊥
  pub idles_in_time : a ≡ idle → (j e : ℕ) → Late s j e → ⊥
  pub misses_earliest : (i p x : ℕ) → a ≡ missed i p x → EarliestBy (Late s) i × (x ≡ s.now)

abbrev pub TickIsEarliestDeadlineFirst : Type 0
TickIsEarliestDeadlineFirst = (ks : List Task) (s : State) → TickSays s (step ks s tick).answer
