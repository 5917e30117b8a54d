-- What a tick does, by the core's entries.
use Rattle.std.proofs.Common.{◌≡◌, ℕ, zero, suc, ◌+◌, ◌-◌, ◌<◌, ◌≤◌, false, leb, List, [], ◌∷◌, map, length, get_or, take, IfSome, Some, None, Option, sym, refl, ap, ◌∙◌, ⊎_elim, arith}
use Rattle.std.proofs.lemmas.List.{same_lists, length-drop}
use Rattle.std.proofs.lemmas.Bool.{cond_both, cond-true, cond-false, cases_Bool, lt-leb, le-leb}
use Rattle.model.specs.Machine as model
use Rattle.model.specs.Machine.{Pick}
use Rattle.model.specs.Machine.{Chosen}
use Rattle.model.proofs.Least.{chosen, none_chosen}
use Rattle.machine.specs.declared.numbers.Numbers.{Numbers}
use Rattle.machine.specs.declared.entry.Phase.{Phase}
use Rattle.machine.specs.declared.entry.Phase.TheVariants.{Rest, Ready, Held}
use Rattle.machine.specs.declared.entry.Event.TheVariants.{Release}
use Rattle.machine.specs.declared.entry.Entry.{Entry}
use Rattle.machine.specs.declared.table.Table.{Table}
use Rattle.machine.specs.declared.clock.Core.{Core}
use Rattle.machine.specs.Events.{moved_in, moved, released, GoodPhase, GoodEntry}
use Rattle.machine.specs.Keys.{ready_in, ready_key, held_key, due_by}
use Rattle.machine.specs.Views.{blank, pieces_of, left_of, task_of, progress_of, piece_told}
use Rattle.machine.specs.Calls.{tasks_of, state_of, miss_of, stepped}
use Rattle.machine.proofs.Front.{picked_is}
use Rattle.machine.proofs.Tables.{front_key}
use Rattle.machine.proofs.Releases.{none_due}
use Rattle.machine.proofs.Keys.{seen, seen_long, seen_at}
use Rattle.machine.proofs.Model.{pieces_long}
use Rattle.machine.proofs.Fronts.{come, late_keys, front_keys, map_by}
use Rattle.machine.proofs.Wakes.{task_is, progress_is}
use Rattle.machine.proofs.Ends.{view, task_stays}

-- what is released is as it was, to the model

release_in : (e : Entry) (f : Phase) → e.phase ≡ f → progress_of (moved_in e f Release) ≡ progress_of e
release_in e Rest q = refl
release_in e (Ready p r) q = refl
release_in e (Held p) q = ap (view e) (sym q)

pub released_progress : (at : ℕ) (e : Entry) → progress_of (released at e) ≡ progress_of e
released_progress at e = cond_both (due_by at (held_key e)) (moved e Release) e (λ m. progress_of m ≡ progress_of e) (λ _. release_in e e.phase refl) (λ _. refl)

pub released_task : (at : ℕ) (e : Entry) → task_of (released at e) ≡ task_of e
released_task at e = cond_both (due_by at (held_key e)) (moved e Release) e (λ m. task_of m ≡ task_of e) (λ _. task_stays e Release) (λ _. refl)

pub seen_same : {X : Type 0} (f : Entry → X) (s t : Table) (r : Entry → Entry) → ((e : Entry) → f (r e) ≡ f e) → t.count ≡ s.count → ((i : ℕ) → i < s.count → get_or t.entries i blank ≡ r (get_or s.entries i blank)) → seen f t.count t.entries ≡ seen f s.count s.entries
seen_same f s t r keeps n h =
    let fits : s.count ≤ length s.entries = omega (arith, s.few, s.long) in
    let fits' : t.count ≤ length t.entries = omega (arith, t.few, t.long) in
    let long = seen_long f s.count s.entries fits in
    let long' = seen_long f t.count t.entries fits' in
    same_lists _ _ (long' ∙ n ∙ sym long) (λ i d l.
    seen_at f t.count t.entries fits' i d (omega arith) ∙ ap f (h i (omega arith)) ∙ keeps (get_or s.entries i blank) ∙ sym (seen_at f s.count s.entries fits i d (omega arith)))

-- the late piece is the front, if it is due

come_some : (now : ℕ) (o : Option ℕ) (v : ℕ) → come now o ≡ Some v → o ≡ Some v
come_some now None v e = absurd (cc)
come_some now (Some a) v e = ⊎_elim
    (λ t. sym (cond-true (leb a now) (Some a) None t) ∙ e)
    (λ t. let n : None ≡ Some v = sym (cond-false (leb a now) (Some a) None t) ∙ e in absurd (cc))
    (cases_Bool (leb a now))

come_none : (now : ℕ) (o : Option ℕ) → due_by now o ≡ false → come now o ≡ None
come_none now None e = refl
come_none now (Some a) e = cond-false (leb a now) (Some a) None e

come_at : (now : ℕ) (ks : List (Option ℕ)) (j : ℕ) → get_or (map (come now) ks) j None ≡ come now (get_or ks j None)
come_at now [] j = refl
come_at now (k ∷ ks) zero = refl
come_at now (k ∷ ks) (suc j) = come_at now ks j

come_least_none : (now : ℕ) (ks : List (Option ℕ)) (r : Option Pick) → model.least ks ≡ r → IfSome r (λ d. now < d.key) → model.least (map (come now) ks) ≡ None
come_least_none now ks r e h = none_chosen (map (come now) ks) (λ j l. come_at now ks j ∙ come_none now (get_or ks j None) (none_due ks now r e h j))

come_least_some : (now : ℕ) (ks : List (Option ℕ)) (x : Pick) → model.least ks ≡ Some x → x.key ≤ now → model.least (map (come now) ks) ≡ Some x
come_least_some now ks x e l = by (model.least ks) (chosen ks) e
  where
    by : (o : Option model.Pick) → Chosen ks o → o ≡ Some x → model.least (map (come now) ks) ≡ Some x
    by None c e = absurd (cc)
    by (Some c) p e =
        let n : c.number ≡ x.number = cc in
        let k : c.key ≡ x.key = cc in
        picked_is (map (come now) ks) x
        (come_at now ks x.number ∙ ap (come now) (ap (λ j. get_or ks j None) (sym n) ∙ p.here ∙ ap (λ a. Some a) k) ∙ cond-true (leb x.key now) (Some x.key) None (le-leb x.key now l))
        (λ j v h. let q = come_some now (get_or ks j None) v (sym (come_at now ks j) ∙ h) in (omega (arith, p.lowest j v q), λ b. omega (arith, p.first j v q (omega arith))))

-- the piece

piece_in_is : (n : Numbers) (last : Option ℕ) (f : Phase) (before a : ℕ) → GoodPhase n before f → ready_in n last f ≡ Some a → (length (pieces_of n) + 1) - length (left_of (pieces_of n) f) ≡ piece_told f
piece_in_is n last Rest b a g h = absurd (cc)
piece_in_is n last (Ready p r) b a g h = omega (arith, pieces_long n, length-drop p (pieces_of n))
piece_in_is n last (Held p) b a g h = absurd (cc)

pub piece_is : (e : Entry) (a : ℕ) → GoodEntry e → ready_key e ≡ Some a → model.piece_number (task_of e) (progress_of e) ≡ piece_told e.phase
piece_is e a g h = piece_in_is e.task e.last e.phase e.before a g.0 h

-- the tick

module _ (c : Core) (runs : model.stopped (miss_of c.miss) ≡ false) (early : c.now < 1000000000000000) where
  late_come : model.late (state_of c) ≡ model.least (map (come c.now) (map ready_key (take c.table.count c.table.entries)))
  late_come = late_keys c ∙ sym (ap model.least (map_by (come c.now) ready_key (λ e. come c.now (ready_key e)) (take c.table.count c.table.entries) blank (λ i l. refl)))

  tick_is : (o : Option model.Pick) → model.late (state_of c) ≡ o → model.misses (tasks_of c) (state_of c) o ≡ model.do_tick (tasks_of c) (state_of c)
  tick_is o f = let p : leb 1000000000000000 c.now ≡ false = lt-leb 1000000000000000 c.now early in rw (runs, p, f)

  runs_front : (r : Option Pick) → model.least (map ready_key (take c.table.count c.table.entries)) ≡ r → IfSome r (λ d. c.now < d.key) → model.runs (tasks_of c) (state_of c) (r) ≡ model.do_tick (tasks_of c) (state_of c)
  runs_front r f h = ap (model.runs (tasks_of c) (state_of c)) (sym (front_keys c ∙ f)) ∙ tick_is None (late_come ∙ come_least_none c.now (map ready_key (take c.table.count c.table.entries)) r f h)

  pub tick_idle : model.least (map ready_key (take c.table.count c.table.entries)) ≡ None → stepped model.idle (model.later (state_of c)) ≡ model.do_tick (tasks_of c) (state_of c)
  tick_idle f = runs_front None f tt

  module _ (x : Pick) (f : model.least (map ready_key (take c.table.count c.table.entries)) ≡ Some x) (l : x.number < c.table.count) where
    piece_there : model.piece_number (model.task_at (tasks_of c) x.number) (model.progress_at (state_of c) x.number) ≡ piece_told (get_or c.table.entries x.number blank).phase
    piece_there = (let p = task_is c x.number l in let q = progress_is c x.number l in λ k. model.piece_number (p k) (q k)) ∙ piece_is (get_or c.table.entries x.number blank) x.key (c.table.good x.number l) (front_key c.table ready_key x f l)

    pub tick_ran : (p : ℕ) → piece_told (get_or c.table.entries x.number blank).phase ≡ p → c.now < x.key
        → stepped (model.ran x.number p) (model.later (model.with_progress (state_of c) x.number (model.ran_tick (model.task_at (tasks_of c) x.number) (model.progress_at (state_of c) x.number))))
        ≡ model.do_tick (tasks_of c) (state_of c)
    tick_ran p e h = ap (λ p. stepped (model.ran x.number p) (model.later (model.with_progress (state_of c) x.number (model.ran_tick (model.task_at (tasks_of c) x.number) (model.progress_at (state_of c) x.number))))) (sym (piece_there ∙ e)) ∙ runs_front (Some x) f h

    pub tick_missed : (p : ℕ) → piece_told (get_or c.table.entries x.number blank).phase ≡ p → x.key ≤ c.now
        → stepped (model.missed x.number p c.now) (record { now = c.now; miss = Some (record { task = x.number; piece = p; instant = c.now }); progress = (state_of c).progress })
        ≡ model.do_tick (tasks_of c) (state_of c)
    tick_missed p e h = ap (λ p. stepped (model.missed x.number p c.now) (record { now = c.now; miss = Some (record { task = x.number; piece = p; instant = c.now }); progress = (state_of c).progress })) (sym (piece_there ∙ e))
        ∙ tick_is (Some x) (late_come ∙ come_least_some c.now (map ready_key (take c.table.count c.table.entries)) x f h)
