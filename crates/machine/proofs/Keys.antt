-- What lines hold as one entry changes.
use Rattle.std.proofs.Common.{◌≡◌, ℕ, zero, suc, ◌+◌, ◌<◌, ◌≤◌, List, [], ◌∷◌, map, length, get_or, take, set, Some, None, sum_by, Option, sym, refl, ap, ◌∙◌, subst, ⊎_elim, arith}
use Rattle.std.proofs.lemmas.List.Sums.{sum_by-cons}
use Rattle.std.proofs.lemmas.List.{map-set, get_or-map, length-map, length-take-le, get_or-take, set-get_or, get_or-set_same, get_or-set_other}
use Rattle.std.proofs.lemmas.Bool.{cases_eq}
use Rattle.model.specs.Machine.{Pick}
use Rattle.queue.proofs.Held.{take_set}
use Rattle.machine.specs.declared.entry.Entry.{Entry}
use Rattle.machine.specs.Views.{blank}
use Rattle.machine.specs.Lines.{worth, tally, Holds}

-- one key changes
pub tally_set : (f : Pick → ℕ) (n : ℕ) (ks : List (Option ℕ)) (i m : ℕ) (k : Option ℕ) → n + i ≡ m → i < length ks → tally f n (set ks i k) + worth f m (get_or ks i None) ≡ tally f n ks + worth f m k
tally_set f n [] i m k e l = absurd (omega arith)
tally_set f n (a ∷ ks) zero m k e l = let z : n ≡ m = omega arith in subst (λ v. (worth f n k + tally f (suc n) ks) + worth f v a ≡ (worth f n a + tally f (suc n) ks) + worth f v k) z (omega arith)
tally_set f n (a ∷ ks) (suc i) m k e l = omega (arith, tally_set f (suc n) ks i m k (omega arith) (omega arith))

-- as many records as keys at most, and fewer where one is none
pub tally_room : (n : ℕ) (ks : List (Option ℕ)) → tally (λ _. 1) n ks ≤ length ks
tally_room n [] = omega arith
tally_room n (None ∷ ks) = omega (arith, tally_room (suc n) ks)
tally_room n (Some a ∷ ks) = omega (arith, tally_room (suc n) ks)

pub tally_less : (n : ℕ) (ks : List (Option ℕ)) (i : ℕ) → i < length ks → get_or ks i None ≡ None → tally (λ _. 1) n ks < length ks
tally_less n [] i l e = absurd (omega arith)
tally_less n (None ∷ ks) zero l e = omega (arith, tally_room (suc n) ks)
tally_less n (Some a ∷ ks) zero l e = absurd (cc)
tally_less n (None ∷ ks) (suc i) l e = omega (arith, tally_less (suc n) ks i (omega arith) e)
tally_less n (Some a ∷ ks) (suc i) l e = omega (arith, tally_less (suc n) ks i (omega arith) e)

pub sum_ones : (xs : List Pick) → sum_by (λ _. 1) xs ≡ length xs
sum_ones [] = refl
sum_ones (x ∷ xs) = sum_by-cons (λ _. 1) x xs ∙ omega (arith, sum_ones xs)

-- what a function of the entries tells of the first `count`
abbrev pub seen : {X : Type 0} → (Entry → X) → ℕ → List Entry → List X
seen f count es = map f (take count es)

module _ {X : Type 0} (f : Entry → X) (count : ℕ) (es : List Entry) (fits : count ≤ length es) where
  pub seen_long : length (seen f count es) ≡ count
  seen_long = length-map (take count es) f ∙ length-take-le count es fits

  pub seen_at : (i : ℕ) (d : X) → i < count → get_or (seen f count es) i d ≡ f (get_or es i blank)
  seen_at i d l = get_or-map f (take count es) i blank d (omega (arith, length-take-le count es fits)) ∙ ap f (get_or-take count es i blank l)

  pub seen_set : (i : ℕ) (e : Entry) → seen f count (set es i e) ≡ set (seen f count es) i (f e)
  seen_set i e = ap (map f) (take_set es count i e) ∙ map-set f (take count es) i e

  -- where f tells the same, nothing changes
  pub seen_kept : (i : ℕ) (e : Entry) → i < count → f e ≡ f (get_or es i blank) → seen f count (set es i e) ≡ seen f count es
  seen_kept i e l q = seen_set i e ∙ ap (set (seen f count es) i) (q ∙ sym (seen_at i (f blank) l)) ∙ set-get_or (seen f count es) i (f blank)

-- of the first `count` entries, the keys
module _ (key : Entry → Option ℕ) (count : ℕ) (es : List Entry) (fits : count ≤ length es) where
  -- the record of entry i goes, and that of e comes
  pub holds_set : (i : ℕ) (e : Entry) → i < count → (xs ys : List Pick) → Holds xs (seen key count es)
      → ((f : Pick → ℕ) → sum_by f ys + worth f i (key (get_or es i blank)) ≡ worth f i (key e) + sum_by f xs)
      → Holds ys (seen key count (set es i e))
  holds_set i e l xs ys h s f =
      let ks = seen key count es in
      let t : tally f 0 (set ks i (key e)) + worth f i (get_or ks i None) ≡ tally f 0 ks + worth f i (key e) = tally_set f 0 ks i i (key e) (omega arith) (omega (arith, seen_long key count es fits)) in
      let a : worth f i (get_or ks i None) ≡ worth f i (key (get_or es i blank)) = ap (worth f i) (seen_at key count es fits i None l) in
      let b : tally f 0 (seen key count (set es i e)) ≡ tally f 0 (set ks i (key e)) = ap (tally f 0) (seen_set key count es fits i e) in
      omega (arith, h f, s f)

  -- a line that lost the record of entry i, if it had one, has room
  pub room : (i : ℕ) → i < count → (xs ys : List Pick) → Holds xs (seen key count es) → ((f : Pick → ℕ) → sum_by f xs ≡ worth f i (key (get_or es i blank)) + sum_by f ys) → length ys < count
  room i l xs ys h s = by (key (get_or es i blank)) refl
    where
      by : (k : Option ℕ) → key (get_or es i blank) ≡ k → length ys < count
      by None e =
          let ks = seen key count es in
          let n : get_or ks i None ≡ None = seen_at key count es fits i None l ∙ e in
          omega (arith, tally_less 0 ks i (omega (arith, seen_long key count es fits)) n, h (λ _. 1), s (λ _. 1), ap (worth (λ _. 1) i) e, sum_ones xs, sum_ones ys, seen_long key count es fits)
      by (Some a) e = omega (arith, tally_room 0 (seen key count es), h (λ _. 1), s (λ _. 1), ap (worth (λ _. 1) i) e, sum_ones xs, sum_ones ys, seen_long key count es fits)

-- what holds of each entry still does
pub each_set : (P : Entry → Type 0) (count : ℕ) (es : List Entry) (i : ℕ) (e : Entry) → i < length es → ((j : ℕ) → j < count → P (get_or es j blank)) → P e → (j : ℕ) → j < count → P (get_or (set es i e) j blank)
each_set P count es i e l h p j m = ⊎_elim
    (λ q. subst P (sym (ap (λ k. get_or (set es i e) k blank) q ∙ get_or-set_same es i e blank l)) p)
    (λ q. subst P (sym (get_or-set_other es i j e blank q)) (h j m))
    (cases_eq j i)
