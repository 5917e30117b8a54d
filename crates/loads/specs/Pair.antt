-- Where a task of two lists stands.
use Rattle.std.specs.Prelude.{◌≡◌, ℕ, ◌+◌, ◌<◌, List, ◌++◌, length}
use Rattle.model.specs.Asked.{found}
use Rattle.model.specs.Task.{Task}
use Rattle.loads.specs.declared.pair.Side.{Side}
use Rattle.loads.specs.declared.pair.Side.TheVariants.{First, Second}

-- task number i of both lists has that number in the first of them, or number j in the second
abbrev pub Stands : List Task → List Task → ℕ → Side → Type 0
Stands ks qs i First = (i < length ks) × (found (ks ++ qs) i ≡ found ks i)
Stands ks qs i (Second j) = (i ≡ length ks + j) × (found (ks ++ qs) i ≡ found qs j)
