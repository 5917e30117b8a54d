-- The steps of a trial, and of the walk over a row's candidates.
use Rattle.std.proofs.Common.{◌≡◌, ℕ, ◌+◌, ◌≤◌, Bool, true, false, cond, List, [], ◌∷◌, ◌++◌, length, get_or, drop, set, Some, None, Option, sym, ap, ◌∙◌, ⊎_elim, arith}
use Rattle.std.specs.List.{slice_get}
use Rattle.std.proofs.lemmas.List.{set-set, set-get_or, drop_all, drop_more}
use Rattle.std.proofs.lemmas.Option.{slice_get_within, slice_get-get_or, slice_get_cases}
use Rattle.model.specs.Verdict.{Verdict}
use Rattle.rows.specs.declared.bare.OpenRow.{OpenRow}
use Rattle.rows.specs.declared.bare.SettledRow.{SettledRow}
use Rattle.rows.specs.Bare.{with_split}
use Rattle.seeker.specs.Sought.{first_passing}
use Rattle.seeker.specs.Steps.{if_kept, placed}

-- a place that gets its row back is as it was
pub undone : (rows out : List SettledRow) (p : ℕ) (x d : SettledRow) → out ≡ set (set rows p x) p (get_or rows p d) → out ≡ rows
undone rows out p x d e = e ∙ set-set rows p x (get_or rows p d) ∙ set-get_or rows p d

there : {X : Type 0} (xs : List X) (i : ℕ) (x : X) → slice_get xs i ≡ Some x → drop i xs ≡ x ∷ drop (i + 1) xs
there xs i x e =
    let l = slice_get_within xs i x e in
    let is : get_or xs i x ≡ x = let g = slice_get-get_or xs i x l in cc in
    drop_more xs i x l ∙ ap (λ y. y ∷ drop (i + 1) xs) is

-- the candidates from number n on give the same row as all
module _ (pass : List SettledRow → Bool) (before : List SettledRow) (o : OpenRow) (xs : List ℕ) (n : ℕ) (same : first_passing pass before o (drop n xs) ≡ first_passing pass before o xs) where
  pub none_past : length xs ≤ n → first_passing pass before o xs ≡ None
  none_past l = sym same ∙ ap (first_passing pass before o) (drop_all n xs l)

  pub none_left : slice_get xs n ≡ None → first_passing pass before o xs ≡ None
  none_left e = ⊎_elim (λ h. let some = h.2 in let z : ◌≡◌ {A = ℕ} 0 1 = cc in absurd (omega arith)) (λ h. none_past h.0) (slice_get_cases xs n).1

  module _ (x : ℕ) (e : slice_get xs n ≡ Some x) where
    here : first_passing pass before o xs ≡ cond (pass (before ++ with_split o x ∷ [])) (Some (with_split o x)) (first_passing pass before o (drop (n + 1) xs))
    here = sym same ∙ ap (first_passing pass before o) (there xs n x e)

    pub this_passes : pass (before ++ with_split o x ∷ []) ≡ true → first_passing pass before o xs ≡ Some (with_split o x)
    this_passes p = here ∙ ap (λ b. cond b (Some (with_split o x)) (first_passing pass before o (drop (n + 1) xs))) p

    pub this_fails : pass (before ++ with_split o x ∷ []) ≡ false → first_passing pass before o (drop (n + 1) xs) ≡ first_passing pass before o xs
    this_fails p = sym (here ∙ ap (λ b. cond b (Some (with_split o x)) (first_passing pass before o (drop (n + 1) xs))) p)

-- what is answered and left in the places, once it is known which row is kept
pub kept_as : (name : ℕ) (found f : Option SettledRow) (rows after : List SettledRow) (k : ℕ) (told : Verdict) → found ≡ f → told ≡ if_kept name f → after ≡ placed f rows k → record { kept : told ≡ if_kept name found; places : after ≡ placed found rows k }
kept_as name found f rows after k told e t p = record { kept = t ∙ sym (ap (if_kept name) e); places = p ∙ sym (ap (λ f. placed f rows k) e) }
