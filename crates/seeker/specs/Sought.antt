-- What a seek settles: row by row the first split that passes.
use Rattle.std.specs.Prelude.{ℕ, Bool, cond, List, [], ◌∷◌, ◌++◌, map, length, drop, is_ok, Some, None, Option}
use Rattle.model.specs.Task.{Task}
use Rattle.model.specs.Verdict.{verdict}
use Rattle.rows.specs.Bare.{settled_own, with_split}
use Rattle.rows.specs.declared.bare.OpenRow.{OpenRow}
use Rattle.rows.specs.declared.bare.SettledRow.{SettledRow}

-- the candidates of a row, by the offers for its numbers
abbrev pub candidates : (ℕ → ℕ → ℕ → ℕ → List ℕ) → OpenRow → List ℕ
candidates offers o = offers o.spacing o.first o.wait o.second

-- the tasks of a rest, then those of settled rows
abbrev pub beside : List Task → List SettledRow → List Task
beside rest rows = rest ++ map settled_own rows

-- the check accepts the rows beside the rest
abbrev pub passes : List Task → List SettledRow → Bool
passes rest rows = is_ok (verdict (beside rest rows))

-- the row with the first of some splits at which it passes after the rows settled before
abbrev pub first_passing : (List SettledRow → Bool) → List SettledRow → OpenRow → List ℕ → Option SettledRow
first_passing pass before o [] = None
first_passing pass before o (x ∷ xs) = cond (pass (before ++ with_split o x ∷ [])) (Some (with_split o x)) (first_passing pass before o xs)

-- what a seek comes to: the rows settled, in place order, and the name of the row that it stopped at
pub record Sought : Type 0 where
  pub settled : List SettledRow
  pub stuck : Option ℕ

abbrev pub go_on : Option SettledRow → Sought → (SettledRow → Sought) → Sought
go_on None stop next = stop
go_on (Some r) stop next = next r

-- open rows are settled first to last, after the rows `done`
abbrev pub sought : (List SettledRow → Bool) → (ℕ → ℕ → ℕ → ℕ → List ℕ) → List OpenRow → List SettledRow → Sought
sought pass offers [] done = record { settled = done; stuck = None }
sought pass offers (o ∷ os) done =
    go_on (first_passing pass done o (candidates offers o)) (record { settled = done; stuck = Some o.name }) (λ r. sought pass offers os (done ++ r ∷ []))

-- the places with rows in the first of them, the others as they were
abbrev pub over : List SettledRow → List SettledRow → List SettledRow
over rows places = rows ++ drop (length rows) places
