use Rattle.std.proofs.Common.{◌≡◌, ℕ, ◌<◌, get_or}
use Rattle.machine.specs.Events.{released}
use Rattle.machine.specs.Views.{blank}
use Rattle.machine.proofs.table.Table.release.Given as goal

abbrev pub invariant-loop-first : goal.invariant-loop-first
invariant-loop-first l = (l.self.count ≡ l.initial.self.count) × ((i : ℕ) → i < l.initial.self.count → released l.at (get_or l.self.entries i blank) ≡ released l.at (get_or l.initial.self.entries i blank))

abbrev pub decreases-loop-first : goal.decreases-loop-first
decreases-loop-first l = l.self.lines.held.len
