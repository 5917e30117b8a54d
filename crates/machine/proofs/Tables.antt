-- A table as one of its entries moves.
use Rattle.std.proofs.Common.{◌≡◌, ℕ, ◌+◌, ◌<◌, ◌≤◌, List, length, get_or, set, Some, None, sum_by, Option, sym, refl, ap, ◌∙◌, subst, arith}
use Rattle.std.proofs.lemmas.List.{get_or_default}
use Rattle.machine.specs.declared.entry.Event.{Event}
use Rattle.machine.specs.declared.entry.Event.TheVariants.{Release}
use Rattle.machine.specs.declared.entry.Entry.{Entry}
use Rattle.machine.specs.declared.lines.Lines.{Lines}
use Rattle.machine.specs.declared.table.Table.{Table}
use Rattle.machine.specs.declared.numbers.Numbers.{Numbers}
use Rattle.machine.specs.declared.entry.Phase.{Phase}
use Rattle.machine.specs.declared.entry.Phase.TheVariants.{Rest, Ready, Held}
use Rattle.machine.specs.Events.{moved_in, moved, GoodEntry, event_at}
use Rattle.machine.specs.Keys.{ready_key, held_key, ready_in, held_in}
use Rattle.machine.specs.Views.{blank}
use Rattle.model.specs.Machine.{Pick, least}
use Rattle.model.specs.Machine.{Chosen}
use Rattle.model.proofs.Least.{chosen}
use Rattle.machine.specs.Lines.{worth, tally, Holds, Takes, Goes, ready_pick, held_pick}
use Rattle.machine.specs.Readies.{readies, helds}
use Rattle.machine.specs.Leads.{Leads}
use Rattle.machine.proofs.Lined.{picks_long}
use Rattle.machine.proofs.Keys.{seen, sum_ones, tally_set, seen_long, seen_at, seen_set, holds_set, room, each_set}
use Rattle.machine.proofs.Moved.{good_moved}
use Rattle.machine.proofs.Front.{one, one_same, tally_at, front_some}

pub ready_long : (q : Lines) → length (readies q) ≡ q.ready.len
ready_long q = picks_long ready_pick q.ready.len q.ready.items (omega (arith, q.ready.fits, q.ready.long))

pub held_long : (q : Lines) → length (helds q) ≡ q.held.len
held_long q = picks_long held_pick q.held.len q.held.items (omega (arith, q.held.fits, q.held.long))

front_nonempty : (xs : List Pick) (ks : List (Option ℕ)) (x : Pick) → Holds xs ks → least ks ≡ Some x → 0 < length xs
front_nonempty xs ks x h e = nonempty (least ks) (chosen ks) e
  where
    nonempty : (o : Option Pick) → Chosen ks o → o ≡ Some x → 0 < length xs
    nonempty None c e = absurd (cc)
    nonempty (Some c) p e = omega (arith, tally_at (λ _. 1) 0 ks c.number c.number c.key (omega arith) p.here, h (λ _. 1), sum_ones xs)

-- what goes with a key that leads, by any function
goes : (xs ys : List Pick) (ks : List (Option ℕ)) (i : ℕ) (k : Option ℕ) → Holds xs ks → ((a : ℕ) → k ≡ Some a → least ks ≡ Some (record { number = i; key = a })) → Goes k xs ys
    → (f : Pick → ℕ) → sum_by f xs ≡ worth f i k + sum_by f ys
goes xs ys ks i None h leads g f = omega (arith, ap (sum_by f) g)
goes xs ys ks i (Some a) h leads g f = taken g.0 g.1
  where
    x : Pick
    x = record { number = i; key = a }

    taken : (o : Option Pick) → Takes xs o ys → sum_by f xs ≡ f x + sum_by f ys
    taken None s = absurd (omega (arith, front_nonempty xs ks x h (leads a refl), ap length s))
    taken (Some d) s =
        let front : least ks ≡ Some d = front_some xs ks h d s.0 (omega (arith, s.1 (one d), one_same d)) in
        let same : d ≡ x = (let first = leads a refl in cc) in
        omega (arith, s.1 f, ap f same)

-- the entry i, read at a default d, moves by the event ev
module _ (t : Table) (i : ℕ) (within : i < t.count) (d : Entry) where
  fits : t.count ≤ length t.entries
  fits = omega (arith, t.few, t.long)

  abbrev old : Entry
  old = get_or t.entries i d

  was : old ≡ get_or t.entries i blank
  was = get_or_default t.entries i d blank (omega arith)

  pub old_good : GoodEntry old
  old_good = subst GoodEntry (sym was) (t.good i within)

  pub new_good : (ev : Event) (e : Entry) → e ≡ moved old ev → event_at ev ≤ 1000000000000000 → GoodEntry e
  new_good ev e is early = subst GoodEntry (sym is) (good_moved old ev old_good early)

  -- a line that held xs, and holds ys without the entry's piece
  module _ (key : Entry → Option ℕ) (xs ys : List Pick) (h : Holds xs (seen key t.count t.entries)) (leads : Leads key t.count t.entries i) (taken : Goes (key old) xs ys) where
    left : (f : Pick → ℕ) → sum_by f xs ≡ worth f i (key (get_or t.entries i blank)) + sum_by f ys
    left = goes xs ys (seen key t.count t.entries) i (key (get_or t.entries i blank)) h leads (subst (λ (e : Entry). Goes (key e) xs ys) was taken)

    pub room_left : length ys < 32
    room_left = omega (arith, room key t.count t.entries fits i within xs ys h left, t.few)

    pub put_back : (e : Entry) (zs : List Pick) → ((f : Pick → ℕ) → sum_by f zs ≡ worth f i (key e) + sum_by f ys) → Holds zs (seen key t.count (set t.entries i e))
    put_back e zs s = holds_set key t.count t.entries fits i e within xs zs h (λ f. omega (arith, s f, left f))

  pub all_good : (ev : Event) (e : Entry) → e ≡ moved old ev → event_at ev ≤ 1000000000000000 → (j : ℕ) → j < t.count → GoodEntry (get_or (set t.entries i e) j blank)
  all_good ev e is early = each_set GoodEntry t.count t.entries i e (omega (arith, t.few, t.long)) t.good (new_good ev e is early)

-- the key of the front
pub front_key : (t : Table) (key : Entry → Option ℕ) (x : Pick) → least (seen key t.count t.entries) ≡ Some x → x.number < t.count → key (get_or t.entries x.number blank) ≡ Some x.key
front_key t key x e l = sym (seen_at key t.count t.entries (omega (arith, t.few, t.long)) x.number None l) ∙ here (least ks) (chosen ks) e
  where
    ks : List (Option ℕ)
    ks = seen key t.count t.entries

    here : (o : Option Pick) → Chosen ks o → o ≡ Some x → get_or ks x.number None ≡ Some x.key
    here None c e = absurd (cc)
    here (Some c) p e =
        let n : c.number ≡ x.number = cc in
        let k : c.key ≡ x.key = cc in
        ap (λ j. get_or ks j None) (sym n) ∙ p.here ∙ ap (λ a. Some a) k

-- an entry's piece stands in one line at most
one_line : (n : Numbers) (last : Option ℕ) (p : Phase) (a b : ℕ) → ready_in n last p ≡ Some a → held_in n last p ≡ Some b → ⊥
one_line n last Rest a b e f = cc
one_line n last (Ready p r) a b e f = cc
one_line n last (Held p) a b e f = cc

-- the entry of the pick x, which is the front of a line
module _ (t : Table) (x : Pick) (l : x.number < t.count) where
  pub leads : (key : Entry → Option ℕ) → least (seen key t.count t.entries) ≡ Some x → Leads key t.count t.entries x.number
  leads key e a q = let k : Some x.key ≡ Some a = sym (front_key t key x e l) ∙ q in e ∙ (let s : x.key ≡ a = cc in λ j. Some (record { number = x.number; key = s j }))

  pub none_held : least (seen ready_key t.count t.entries) ≡ Some x → Leads held_key t.count t.entries x.number
  none_held e a q = let old = get_or t.entries x.number blank in absurd (one_line old.task old.last old.phase x.key a (front_key t ready_key x e l) q)

  pub none_ready : least (seen held_key t.count t.entries) ≡ Some x → Leads ready_key t.count t.entries x.number
  none_ready e a q = let old = get_or t.entries x.number blank in absurd (one_line old.task old.last old.phase a x.key q (front_key t held_key x e l))

released_in : (e : Entry) (p : Phase) → e.phase ≡ p → held_key (moved_in e p Release) ≡ None
released_in e Rest q = ap (held_in e.task e.last) q
released_in e (Ready p r) q = ap (held_in e.task e.last) q
released_in e (Held p) q = refl

pub released_none : (e : Entry) → held_key (moved e Release) ≡ None
released_none e = released_in e e.phase refl

-- a release takes one key out of the held ones
pub held_fewer : (t u : Table) (i a : ℕ) → i < t.count → held_key (get_or t.entries i blank) ≡ Some a → u.count ≡ t.count → u.entries ≡ set t.entries i (moved (get_or t.entries i blank) Release) → u.lines.held.len + 1 ≡ t.lines.held.len
held_fewer t u i a l k n es =
    let ks = seen held_key t.count t.entries in
    let e = moved (get_or t.entries i blank) Release in
    let fits : t.count ≤ length t.entries = omega (arith, t.few, t.long) in
    let is : seen held_key u.count u.entries ≡ set ks i (held_key e) = (λ j. seen held_key (n j) (es j)) ∙ seen_set held_key t.count t.entries fits i e in
    let one : worth (λ _. 1) i (get_or ks i None) ≡ 1 = ap (worth (λ _. 1) i) (seen_at held_key t.count t.entries fits i None l ∙ k) in
    let none : worth (λ _. 1) i (held_key e) ≡ 0 = ap (worth (λ _. 1) i) (released_none (get_or t.entries i blank)) in
    omega (
      arith,
      tally_set (λ _. 1) 0 ks i i (held_key e) (omega arith) (omega (arith, seen_long held_key t.count t.entries fits)),
      one,
      none,
      ap (tally (λ _. 1) 0) is,
      t.parked (λ _. 1),
      u.parked (λ _. 1),
      sum_ones (helds t.lines),
      sum_ones (helds u.lines),
      held_long t.lines,
      held_long u.lines,
    )
