-- Held pieces become ready, one by one.
use Rattle.std.proofs.Common.{◌≡◌, ℕ, ◌<◌, ◌≤◌, true, false, List, length, get_or, set, IfSome, Some, None, Option, sym, refl, ap, ◌∙◌, ⊎_elim, arith}
use Rattle.std.proofs.lemmas.List.{get_or-set_same, get_or-set_other}
use Rattle.std.proofs.lemmas.Bool.{cases_eq, le-leb, lt-leb, cond-true, cond-false}
use Rattle.model.specs.Machine.{Pick, least}
use Rattle.model.specs.Machine.{Chosen}
use Rattle.model.proofs.Least.{chosen}
use Rattle.machine.specs.declared.entry.Event.TheVariants.{Release}
use Rattle.machine.specs.declared.entry.Entry.{Entry}
use Rattle.machine.specs.declared.table.Table.{Table}
use Rattle.machine.specs.Events.{moved, released}
use Rattle.machine.specs.Keys.{held_key, due_by}
use Rattle.machine.specs.Views.{blank}
use Rattle.machine.proofs.Keys.{seen, seen_at}
use Rattle.machine.proofs.Tables.{released_none}

-- what was released stays
released_once : (at : ℕ) (e : Entry) (a : ℕ) → held_key e ≡ Some a → a ≤ at → released at (moved e Release) ≡ released at e
released_once at e a h l =
    let now : due_by at (held_key e) ≡ true = ap (due_by at) h ∙ le-leb a at l in
    let none : due_by at (held_key (moved e Release)) ≡ false = ap (due_by at) (released_none e) in
    cond-false _ _ _ none ∙ sym (cond-true _ _ _ now)

pub release_step : (at count : ℕ) (es fs : List Entry) (k a : ℕ) → k < length fs → held_key (get_or fs k blank) ≡ Some a → a ≤ at
    → ((i : ℕ) → i < count → released at (get_or fs i blank) ≡ released at (get_or es i blank))
    → (i : ℕ) → i < count → released at (get_or (set fs k (moved (get_or fs k blank) Release)) i blank) ≡ released at (get_or es i blank)
release_step at count es fs k a kl h l inv i il = ⊎_elim
    (λ q. ap (λ j. released at (get_or (set fs k (moved (get_or fs k blank) Release)) j blank)) q
    ∙ ap (released at) (get_or-set_same fs k (moved (get_or fs k blank) Release) blank kl)
    ∙ released_once at (get_or fs k blank) a h l
    ∙ ap (λ j. released at (get_or fs j blank)) (sym q) ∙ inv i il)
    (λ q. ap (released at) (get_or-set_other fs k i (moved (get_or fs k blank) Release) blank q) ∙ inv i il)
    (cases_eq i k)

pub none_due : (ks : List (Option ℕ)) (at : ℕ) (r : Option Pick) → least ks ≡ r → IfSome r (λ d. at < d.key) → (j : ℕ) → due_by at (get_or ks j None) ≡ false
none_due ks at r e h j = due (get_or ks j None) refl
  where
    late : (r : Option Pick) → IfSome r (λ d. at < d.key) → (o : Option Pick) → Chosen ks o → o ≡ r → (a : ℕ) → get_or ks j None ≡ Some a → at < a
    late None h None c e a q = let n = c j in absurd (cc)
    late None h (Some c) p e a q = absurd (cc)
    late (Some x) h None c e a q = absurd (cc)
    late (Some x) h (Some c) p e a q = let k : c.key ≡ x.key = cc in omega (arith, p.lowest j a q)

    due : (o : Option ℕ) → get_or ks j None ≡ o → due_by at o ≡ false
    due None q = refl
    due (Some a) q = lt-leb a at (late r h (least ks) (chosen ks) e a q)

pub release_done : (at count : ℕ) (es : List Entry) (t : Table) (r : Option Pick) → t.count ≡ count → least (seen held_key t.count t.entries) ≡ r → IfSome r (λ d. at < d.key)
    → ((i : ℕ) → i < count → released at (get_or t.entries i blank) ≡ released at (get_or es i blank))
    → (i : ℕ) → i < count → get_or t.entries i blank ≡ released at (get_or es i blank)
release_done at count es t r n e h inv i l =
    let e' = get_or t.entries i blank in
    let none : due_by at (held_key e') ≡ false = ap (due_by at) (sym (seen_at held_key t.count t.entries (omega (arith, t.few, t.long)) i None (omega arith))) ∙ none_due _ at r e h i in
    sym (cond-false (due_by at (held_key e')) (moved e' Release) e' none) ∙ inv i l
