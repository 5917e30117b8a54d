-- The top of a line is the least of the keys whose records it holds.
use Rattle.std.proofs.Common.{◌≡◌, ℕ, zero, suc, ◌+◌, ◌<◌, ◌≤◌, true, cond, ◌&&◌, eqb, ◌⊎◌, List, [], ◌∷◌, length, get_or, IfSome, Some, None, sum_by, Option, sym, refl, ap, ◌∙◌, subst, inl, inr, ⊎_elim, arith}
use Rattle.std.specs.List.{ContainsAt as Has, AllByRecursion}
use Rattle.std.proofs.lemmas.List.Sums.{sum_by-cons, get_or-le-sum_by}
use Rattle.std.proofs.lemmas.Bool.Decides.{nat_tests}
use Rattle.std.proofs.lemmas.Bool.{and_parts, eqb-true, cond-false, cases_Bool}
use Rattle.queue.specs.Held.{First}
use Rattle.std.specs.Option.{option_map}
use Rattle.model.specs.Machine.{Pick, Chosen, least}
use Rattle.model.proofs.Least.{least_is, chosen, none_chosen}
use Rattle.machine.specs.Lines.{pick_before, tally, Holds, Fronts}

-- 1 at x, and 0 elsewhere
abbrev pub one : Pick → Pick → ℕ
one x y = cond (eqb x.key y.key && eqb x.number y.number) 1 0

pub one_same : (x : Pick) → one x x ≡ 1
one_same x = grind (arith, nat_tests)

-- one x y is 0, or y is x
pub one_cases : (x y : Pick) → (one x y ≡ 0) ⊎ (y ≡ x)
one_cases x y = ⊎_elim
    (λ e. let p = and_parts (eqb x.key y.key) (eqb x.number y.number) e in
    let d : x.key ≡ y.key = eqb-true x.key y.key p.0 in
    let t : x.number ≡ y.number = eqb-true x.number y.number p.1 in
    inr (λ k. record { number = sym t k; key = sym d k }))
    (λ e. inl (cond-false _ 1 0 e))
    (cases_Bool (eqb x.key y.key && eqb x.number y.number))

-- what has a key counts
pub tally_at : (f : Pick → ℕ) (i : ℕ) (ks : List (Option ℕ)) (j n a : ℕ) → i + j ≡ n → get_or ks j None ≡ Some a → f (record { number = n; key = a }) ≤ tally f i ks
tally_at f i [] j n a l e = absurd (cc)
tally_at f i (None ∷ ks) zero n a l e = absurd (cc)
tally_at f i (Some b ∷ ks) zero n a l e =
    let s : f (record { number = n; key = a }) ≡ f (record { number = i; key = b }) = (let p : a ≡ b = cc in let q : n ≡ i = omega arith in λ k. f (record { number = q k; key = p k })) in
    omega arith
tally_at f i (k ∷ ks) (suc j) n a l e = omega (arith, tally_at f (suc i) ks j n a (omega arith) e)

-- what counts has a key
pub tally_found : (x : Pick) (i : ℕ) (ks : List (Option ℕ)) → 0 < tally (one x) i ks → (j : ℕ) × (i + j ≡ x.number) × (get_or ks j None ≡ Some x.key)
tally_found x i [] h = absurd (omega arith)
tally_found x i (None ∷ ks) h = let r = tally_found x (suc i) ks (omega arith) in (suc r.0, omega arith, r.2)
tally_found x i (Some a ∷ ks) h = ⊎_elim
    (λ z. let r = tally_found x (suc i) ks (omega (arith, z)) in (suc r.0, omega arith, r.2))
    (λ e. (0, omega (arith, ap (λ y. y.number) e), ap (λ y. Some y.key) e))
    (one_cases x (record { number = i; key = a }))

pub all_found : (P : Pick → Type 0) (x : Pick) (xs : List Pick) → AllByRecursion P xs → 0 < sum_by (one x) xs → P x
all_found P x [] a h = absurd (omega arith)
all_found P x (y ∷ xs) a h = ⊎_elim
    (λ z. all_found P x xs a.1 (omega (arith, z, sum_by-cons (one x) y xs)))
    (λ e. subst P e a.0)
    (one_cases x y)

module _ (xs : List Pick) (ks : List (Option ℕ)) (h : Holds xs ks) where
  -- what holds of each record that is held holds of the record of each key
  pub held_key_has : (P : Pick → Type 0) → AllByRecursion P xs → (j a : ℕ) → get_or ks j None ≡ Some a → P (record { number = j; key = a })
  held_key_has P all j a e =
      let x : Pick = record { number = j; key = a } in
      all_found P x xs all (omega (arith, tally_at (one x) 0 ks j j a (omega arith) e, one_same x, h (one x)))

  -- a record that is held has its key
  pub held_has_key : (x : Pick) → 0 < sum_by (one x) xs → get_or ks x.number None ≡ Some x.key
  held_has_key x has =
      let r = tally_found x 0 ks (omega (arith, h (one x))) in
      let e : x.number ≡ r.0 = omega arith in
      ap (λ j. get_or ks j None) e ∙ r.2

  -- nothing comes before the first
  pub first_least : (x : Pick) → First pick_before x xs → (j a : ℕ) → get_or ks j None ≡ Some a → (x.key ≤ a) × (j < x.number → x.key < a)
  first_least x first j a e =
      let y : Pick = record { number = j; key = a } in
      let b = held_key_has (λ y. (y ≡ x → ⊥) → pick_before x y ≡ true) first j a e in
      ⊎_elim
      (λ z. let t : pick_before x y ≡ true = b (λ q. let o : one x x ≡ 0 = ap (one x) (sym q) ∙ z in omega (arith, one_same x)) in
      (grind (arith, nat_tests), λ l. grind (arith, nat_tests)))
      (λ q. let d : a ≡ x.key = ap (λ v. v.key) q in let n : j ≡ x.number = ap (λ v. v.number) q in (omega arith, λ l. absurd (omega arith)))
      (one_cases x y)

  pub none_least : xs ≡ [] → (j : ℕ) → get_or ks j None ≡ None
  none_least e j = none (get_or ks j None) refl
    where
      none : (o : Option ℕ) → get_or ks j None ≡ o → o ≡ None
      none None q = refl
      none (Some a) q = absurd (omega (arith, tally_at (λ _. 1) 0 ks j j a (omega arith) q, h (λ _. 1), ap (sum_by (λ _. 1)) e))

pub has_counts : (xs : List Pick) (x : Pick) → Has xs x → 0 < sum_by (one x) xs
has_counts xs x has =
    let c : one x (get_or xs has.0 x) ≡ 1 = ap (one x) (has.2 x) ∙ one_same x in
    omega (arith, get_or-le-sum_by (one x) xs has.0 x has.1, c)

pub some_within : (ks : List (Option ℕ)) (j a : ℕ) → get_or ks j None ≡ Some a → j < length ks
some_within [] j a e = absurd (cc)
some_within (k ∷ ks) zero a e = omega arith
some_within (k ∷ ks) (suc j) a e = omega (arith, some_within ks j a e)

-- whatever has the least key, the first of those, is picked
pub picked_is : (ks : List (Option ℕ)) (c : Pick) → get_or ks c.number None ≡ Some c.key → ((j v : ℕ) → get_or ks j None ≡ Some v → (c.key ≤ v) × (j < c.number → c.key < v)) → least ks ≡ Some c
picked_is ks c has low = least_is ks c (record { within = some_within ks c.number c.key has; here = has; lowest = λ j v h. (low j v h).0; first = λ j v h. (low j v h).1 })

pub front_some : (xs : List Pick) (ks : List (Option ℕ)) → Holds xs ks → (x : Pick) → First pick_before x xs → 0 < sum_by (one x) xs → least ks ≡ Some x
front_some xs ks h x first has = picked_is ks x (held_has_key xs ks h x has) (first_least xs ks h x first)

pub front_is : (xs : List Pick) (ks : List (Option ℕ)) → Holds xs ks → (r : Option Pick) → Fronts xs r → least ks ≡ r
front_is xs ks h None e = none_chosen ks (λ j l. none_least xs ks h e j)
front_is xs ks h (Some x) p = front_some xs ks h x p.0 (has_counts xs x p.1)

pick_within : (count : ℕ) (ks : List (Option ℕ)) (x : Pick) → length ks ≡ count → least ks ≡ Some x → x.number < count
pick_within count ks x l e = within (least ks) (chosen ks) e
  where
    within : (o : Option Pick) → Chosen ks o → o ≡ Some x → x.number < count
    within None c e = absurd (cc)
    within (Some c) p e = let n : c.number ≡ x.number = cc in omega (arith, p.within)

-- what a line tells of its front, by its records
pub front_picked : {X : Type 0} (pick : X → Pick) (xs : List Pick) (ks : List (Option ℕ)) → Holds xs ks → (r : Option X) → Fronts xs (option_map pick r) → (count : ℕ) → length ks ≡ count → (least ks ≡ option_map pick r) × IfSome r (λ d. (pick d).number < count)
front_picked pick xs ks h None f count l = (front_is xs ks h None f, tt)
front_picked pick xs ks h (Some x) f count l = let e = front_is xs ks h (Some (pick x)) f in (e, pick_within count ks (pick x) l e)
