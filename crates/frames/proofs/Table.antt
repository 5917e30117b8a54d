-- The rule of a table, shown at all of its entries by one computed test.
use Rattle.std.proofs.Common.{◌≡◌, ℕ, ◌<◌, Bool, true, false, List, length, get_or, refl, ap, ◌∙◌, zero-add, arith}
use Rattle.std.specs.List.{list_all, enumerate_from}
use Rattle.std.proofs.lemmas.List.Folds.{list_all_at}
use Rattle.std.proofs.lemmas.List.FromFn.{length-enumerate_from, get_or-enumerate_from}

-- the test f passes at each place of the list and its entry
pub at : (f : ℕ × ℕ → Bool) (xs : List ℕ) → list_all f (enumerate_from 0 xs) ≡ true → (k : ℕ) → k < length xs → f (k, get_or xs k 0) ≡ true
at f xs t k h = go (f (k, get_or xs k 0)) refl
  where
    go : (b : Bool) → f (k, get_or xs k 0) ≡ b → f (k, get_or xs k 0) ≡ true
    go true e = e
    go false e =
        let entry = ap f (get_or-enumerate_from 0 xs k (0, 0) h) ∙ ap (λ (j : ℕ). f (j, get_or xs k 0)) (zero-add k) ∙ e in
        let fails = list_all_at f (enumerate_from 0 xs) k (0, 0) (omega (arith, length-enumerate_from 0 xs)) entry in
        cc
