-- The law of a seek, told of its answer and of the places before and after it.
use Rattle.std.specs.Prelude.{◌≡◌, ℕ, ◌⊎◌, List, [], ◌∷◌, ◌++◌, Some, None, Err, Option}
use Rattle.std.specs.List.{AllByRecursion}
use Rattle.model.specs.declared.refusal.Refusal.TheVariants.{NoSplit}
use Rattle.model.specs.Task.{Task}
use Rattle.model.specs.Verdict.{Verdict, accepted, overloaded, verdict}
use Rattle.rows.specs.declared.bare.OpenRow.{OpenRow}
use Rattle.rows.specs.declared.bare.SettledRow.{SettledRow}
use Rattle.seeker.specs.Queued.{InOrder}
use Rattle.seeker.specs.Refused.{ended}
use Rattle.rows.specs.Bare.{with_split}
use Rattle.seeker.specs.Sought.{candidates, beside, over}

abbrev pub IsOverloaded : Verdict → Type 0
IsOverloaded v = (t : ℕ) × (v ≡ overloaded t)

abbrev pub AcceptedOrOverloaded : Verdict → Type 0
AcceptedOrOverloaded v = (v ≡ accepted) ⊎ IsOverloaded v

-- the answer of a seek that began: it settled every row, or stopped at one
abbrev pub Began : Verdict → Type 0
Began v = (v ≡ accepted) ⊎ ((name : ℕ) × (v ≡ Err (NoSplit name)))

module _ (rest : List Task) where
  -- the verdict on an open row with a split, after the rows settled before it
  abbrev pub verdict_at : List SettledRow → OpenRow → ℕ → Verdict
  verdict_at before o x = verdict (beside rest (before ++ with_split o x ∷ []))

  -- no split of these passes: each is overloaded
  abbrev pub NonePasses : List SettledRow → OpenRow → List ℕ → Type 0
  NonePasses before o xs = AllByRecursion (λ x. IsOverloaded (verdict_at before o x)) xs

  -- r is the open row with the first of the splits xs that passes
  pub record Kept (before : List SettledRow) (o : OpenRow) (xs : List ℕ) (r : SettledRow) : Type 0 where
    pub failed : List ℕ
    pub split : ℕ
    pub untried : List ℕ
    pub offered : xs ≡ failed ++ split ∷ untried
    pub none_before : NonePasses before o failed
    pub holds : verdict_at before o split ≡ accepted
    pub is : r ≡ with_split o split

  -- the rows rs are settled for the open rows in their order, each after those before it, and the seek stopped at the first open row that has no split that passes
  abbrev pub Settles : (ℕ → ℕ → ℕ → ℕ → List ℕ) → List SettledRow → List OpenRow → List SettledRow → Option ℕ → Type 0
  Settles offers before [] [] stuck = stuck ≡ None
  Settles offers before [] (r ∷ rs) stuck = ⊥
  Settles offers before (o ∷ os) [] stuck = (stuck ≡ Some o.name) × NonePasses before o (candidates offers o)
  Settles offers before (o ∷ os) (r ∷ rs) stuck = Kept before o (candidates offers o) r × Settles offers (before ++ r ∷ []) os rs stuck

  -- what a seek of these rows came to: its answer, and the places before and after it
  pub record Law (offers : ℕ → ℕ → ℕ → ℕ → List ℕ) (rows : List OpenRow) (before after : List SettledRow) (answered : Verdict) : Type 0 where
    pub order : List OpenRow
    pub in_order : InOrder rows order
    pub settled : List SettledRow
    pub stuck : Option ℕ
    pub settles : Settles offers [] order settled stuck
    -- what is settled passes beside the rest
    pub passes : verdict (beside rest settled) ≡ accepted
    pub answer : answered ≡ ended stuck
    pub places : after ≡ over settled before
