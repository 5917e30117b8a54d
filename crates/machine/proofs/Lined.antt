-- What a line of records holds after one was put or taken.
use Rattle.std.proofs.Common.{◌≡◌, ℕ, ◌+◌, ◌-◌, ◌<◌, ◌≤◌, Bool, true, List, [], ◌∷◌, map, length, take, Some, None, Ok, Err, sum_by, Option, Result, sym, refl, ap, ◌∙◌, subst, arith}
use Rattle.std.specs.Option.{option_map}
use Rattle.std.specs.List.Sorted.{IsPermutation}
use Rattle.std.specs.List.{AllByRecursion}
use Rattle.std.proofs.ByRecursion.{All-map}
use Rattle.std.proofs.lemmas.List.{length-map, length-take-le, get_or-map}
use Rattle.std.proofs.lemmas.List.Sorted.{IsPermutation-sym, sum_by-IsPermutation}
use Rattle.std.proofs.lemmas.List.Sums.{sum_by-cons}
use Rattle.model.specs.declared.refusal.Refusal.{Refusal}
use Rattle.model.specs.Machine.{Pick}
use Rattle.queue.specs.Held.{First, GivesFirst, Peeked, Put}
use Rattle.machine.specs.Lines.{pick_before, Fronts, Takes}

-- `pick` tells the task and the instant of a record, by which the records rank
module _ {X : Type 0} (pick : X → Pick) where
  sum_map : (f : Pick → ℕ) (xs : List X) → sum_by f (map pick xs) ≡ sum_by (λ x. f (pick x)) xs
  sum_map f [] = refl
  sum_map f (x ∷ xs) = sum_by-cons f (pick x) (map pick xs) ∙ ap (λ n. f (pick x) + n) (sum_map f xs) ∙ sym (sum_by-cons (λ x. f (pick x)) x xs)

  sum_shuffled : (f : Pick → ℕ) (x : X) (xs ys : List X) → IsPermutation (x ∷ xs) ys → sum_by f (map pick ys) ≡ f (pick x) + sum_by f (map pick xs)
  sum_shuffled f x xs ys s = sum_map f ys ∙ sum_by-IsPermutation (λ x. f (pick x)) (x ∷ xs) ys s ∙ sym (sum_map f (x ∷ xs)) ∙ sum_by-cons f (pick x) (map pick xs)

  -- what was put beside the first n of xs, where there is a place for it
  pub sum_put : (f : Pick → ℕ) (x : X) (xs ys : List X) (n : ℕ) (r : Result (Unit {0}) Refusal) → n < length xs → Put (length xs) (take n xs) x r (take (n + 1) ys) → sum_by f (map pick (take (n + 1) ys)) ≡ f (pick x) + sum_by f (map pick (take n xs))
  sum_put f x xs ys n (Ok _) room p = sum_shuffled f x (take n xs) (take (n + 1) ys) p.1
  sum_put f x xs ys n (Err e) room p = absurd (omega (arith, p.1, length-take-le n xs (omega arith)))

  module _ (b : X → X → Bool) (ranks : (x y : X) → pick_before (pick x) (pick y) ≡ b x y) where
    first_picked : (x : X) (l : List X) → First b x l → First pick_before (pick x) (map pick l)
    first_picked x l first = All-map (λ y. (y ≡ pick x → ⊥) → pick_before (pick x) y ≡ true) pick l (go l first)
      where
        go : (l : List X) → First b x l → AllByRecursion (λ y. (pick y ≡ pick x → ⊥) → pick_before (pick x) (pick y) ≡ true) l
        go [] a = tt
        go (y ∷ l) a = (λ differ. ranks x y ∙ a.0 (λ e. differ (ap pick e)), go l a.1)

    pub fronts : (l : List X) (r : Option X) → Peeked l r → GivesFirst b l r → Fronts (map pick l) (option_map pick r)
    fronts l None p g = ap (map pick) p
    fronts l (Some x) p g = (first_picked x l g, (p.0, omega (arith, p.1, length-map l pick), λ d. get_or-map pick l p.0 x d p.1 ∙ ap pick (p.2 x)))

    pub takes : (x : X) (xs ys : List X) (n m : ℕ) → m ≡ n - 1 → First b x (take n xs) → IsPermutation (take n xs) (x ∷ take m ys) → Takes (map pick (take n xs)) (Some (pick x)) (map pick (take (n - 1) ys))
    takes x xs ys n m left first s = (first_picked x (take n xs) first, λ f. sum_shuffled f x (take (n - 1) ys) (take n xs) (IsPermutation-sym _ _ (subst (λ (k : ℕ). IsPermutation (take n xs) (x ∷ take k ys)) left s)))

pub picks_long : {X : Type 0} (pick : X → Pick) (len : ℕ) (xs : List X) → len ≤ length xs → length (map pick (take len xs)) ≡ len
picks_long pick len xs fits = length-map (take len xs) pick ∙ length-take-le len xs fits
