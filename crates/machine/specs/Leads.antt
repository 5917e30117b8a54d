-- Entries whose pieces are at the front of their lines.
use Rattle.std.specs.Prelude.{◌≡◌, ℕ, List, map, take, slice_index_or, Some, Option}
use Rattle.model.specs.Machine.{least}
use Rattle.machine.specs.declared.entry.Entry.{Entry}
use Rattle.machine.specs.Views.{blank}

-- the key of entry i, if it has one, is the least of the first `count`, and the first of those
abbrev pub Leads : (Entry → Option ℕ) → ℕ → List Entry → ℕ → Type 0
Leads key count es i = (a : ℕ) → key (slice_index_or es i blank) ≡ Some a → least (map key (take count es)) ≡ Some (record { number = i; key = a })
