-- Settled rows, the same rows with equal splits, and settled rows beside further tasks.
use Rattle.std.specs.Prelude.{◌≡◌, ℕ, ◌-◌, ◌%◌, List, ◌++◌, map}
use Rattle.model.specs.Task.{Task}
use Rattle.model.specs.Rows.{From, LawfulOpen, settled}
use Rattle.model.specs.Splits.{equal_split}

pub record Settled : Type 0 where
  pub spacing : ℕ
  pub first : ℕ
  pub wait : ℕ
  pub second : ℕ
  pub split : ℕ

abbrev pub LawfulSettled : Settled → Type 0
LawfulSettled r = LawfulOpen r.spacing r.first r.wait r.second × From 1 r.split (r.spacing - r.wait - 1)

-- the spacing less the wait is even
abbrev pub Even : Settled → Type 0
Even r = (r.spacing - r.wait) % 2 ≡ 0

abbrev pub task_of : Settled → Task
task_of r = settled r.spacing r.first r.wait r.second r.split

abbrev pub equally : Settled → Settled
equally r = record { spacing = r.spacing; first = r.first; wait = r.wait; second = r.second; split = equal_split r.spacing r.first r.wait r.second }

-- settled rows beside further tasks, in either order
pub data Order : Type 0 where
  rows_first : Order
  rows_last : Order

abbrev pub joined : Order → List Settled → List Task → List Task
joined rows_first rows others = map task_of rows ++ others
joined rows_last rows others = others ++ map task_of rows
