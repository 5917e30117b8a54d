-- What is offered below a bound alone.
use Rattle.std.proofs.Common.{◌≡◌, ℕ, ◌<◌, ◌≤◌, List, is_some, IfSome, Some, None, Option, sym}
use Rattle.std.specs.List.{slice_get}
use Rattle.std.proofs.Math.Dec.{ltb}
use Rattle.std.proofs.lemmas.Bool.{ltb-true, ltb-false}

-- an answer that is there exactly where k is below h is what a list has at k, if it is so at each of both sides
pub offered : (o : Option ℕ) (k h : ℕ) (P : ℕ → Type 0) (xs : List ℕ) → ((d : ℕ) → P d → k < h → Some d ≡ slice_get xs k) → (h ≤ k → None ≡ slice_get xs k) → is_some o ≡ ltb k h → IfSome o P → o ≡ slice_get xs k
offered None k h P xs here past v p = past (ltb-false k h (sym v))
offered (Some d) k h P xs here past v p = here d p (ltb-true k h (sym v))
