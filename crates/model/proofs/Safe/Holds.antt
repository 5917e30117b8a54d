-- A machine whose tasks never ask too much misses nothing and never stops.
use Rattle.std.proofs.Common.{◌≡◌, ℕ, zero, suc, ◌+◌, ◌-◌, ◌^◌, ◌<◌, ◌≤◌, true, false, not, ltb, leb, List, [], ◌∷◌, map, length, get_or, set, replicate, Some, None, Option, sym, refl, ap, ◌∙◌, arith}
use Rattle.std.proofs.lemmas.List.{get_or-map, length-map, length-replicate, get_or-replicate}
use Rattle.std.proofs.lemmas.Bool.{ltb-true, ltb-false, eqb-true, cond_both, not-false}
use Rattle.model.specs.declared.refusal.Refusal.{Refusal}
use Rattle.model.specs.declared.refusal.Refusal.TheVariants.{NoTask, TooSoon, LastInstant, NotFront}
use Rattle.model.specs.Refusals.{number}
use Rattle.model.specs.Task.{Piece, Task, Lawful, AllLawful}
use Rattle.model.specs.Run.{Job}
use Rattle.model.specs.Demand.{demand_of_all}
use Rattle.model.specs.Machine.{Call, wake, end, tick, refused, refused_by, Progress, State, Step, Pick, Chosen, at_rest, asleep, opened, ready_due, late_due, front, late, is_front, task_at, progress_at, too_soon, is_open, started, runs, do_wake, do_end, do_tick, step, after_all, answers}
use Rattle.model.specs.Promise.{NoneDue, NeverOpen, Holds}
use Rattle.model.proofs.Each.{lawful_at}
use Rattle.model.proofs.Least.{chosen, none_chosen}
use Rattle.model.proofs.Demand.Upper.{all_never_more}
use Rattle.model.proofs.Safe.Past.{free, NeverTooMuch}
use Rattle.model.proofs.Safe.Seat.{Seat, fresh, job, shown, history, finish, woke, left, shown_finish, left_none}
use Rattle.model.proofs.Safe.Good.{More}
use Rattle.model.proofs.Safe.Watch.{Ahead, work_more, ready_none, ready_some, ready_urgent, late_none, ahead_all, open_ahead}
use Rattle.model.proofs.Safe.Kept.{seat_at, Kept, ahead}
use Rattle.model.proofs.Safe.Moves.{kept_wake, kept_end, kept_idle, kept_run, after_tick, ticked}

abbrev pub shown_all : List Task → List Seat → List Progress
shown_all [] qs = []
shown_all (k ∷ ks) [] = []
shown_all (k ∷ ks) (q ∷ qs) = shown k q ∷ shown_all ks qs

shown_length : (ks : List Task) (qs : List Seat) → length qs ≡ length ks → length (shown_all ks qs) ≡ length ks
shown_length [] qs e = refl
shown_length (k ∷ ks) [] e = absurd (omega arith)
shown_length (k ∷ ks) (q ∷ qs) e = ap suc (shown_length ks qs (omega arith))

shown_at : (ks : List Task) (qs : List Seat) (i : ℕ) → length qs ≡ length ks → i < length ks → get_or (shown_all ks qs) i at_rest ≡ shown (task_at ks i) (seat_at qs i)
shown_at [] qs i e b = absurd (omega arith)
shown_at (k ∷ ks) [] i e b = absurd (omega arith)
shown_at (k ∷ ks) (q ∷ qs) zero e b = refl
shown_at (k ∷ ks) (q ∷ qs) (suc i) e b = shown_at ks qs i (omega arith) (omega arith)

shown_set : (ks : List Task) (qs : List Seat) (i : ℕ) (q : Seat) → set (shown_all ks qs) i (shown (task_at ks i) q) ≡ shown_all ks (set qs i q)
shown_set [] qs i q = refl
shown_set (k ∷ ks) [] i q = refl
shown_set (k ∷ ks) (q' ∷ qs) zero q = refl
shown_set (k ∷ ks) (q' ∷ qs) (suc i) q = rw (shown_set ks qs i q)

abbrev pub state : List Task → ℕ → List Seat → State
state ks now qs = record { now = now; miss = None; progress = shown_all ks qs }

-- a step that keeps the invariant
pub record Next (ks : List Task) (st : Step) : Type 0 where
  pub now : ℕ
  pub seats : List Seat
  pub kept : Kept ks now seats
  pub is : st.after ≡ state ks now seats
  pub fine : refused_by st.answer ≡ 19 → ⊥

-- a new job shows as `started`; where it may wake, no job is open
starts : (k : Task) (now : ℕ) (past : List Job) → started k now ≡ shown k (job now [] 0 past)
starts k now past = rw left_none

free_at : (now : ℕ) (k : Task) (q : Seat) → too_soon k now (shown k q).last ≡ false → free k (history k q) ≤ now
free_at now k fresh e = omega arith
free_at now k (job w ds n past) e = ltb-false now (w + k.spacing) e

open_more : (l : List Piece) → is_open l ≡ true → More l
open_more [] e = cc
open_more (p ∷ ps) e = tt

not_open : (now : ℕ) (k : Task) (q : Seat) → Lawful k → Ahead now (woke q) (left k q) → free k (history k q) ≤ now → is_open (left k q) ≡ true → ⊥
not_open now k fresh law a f e = cc
not_open now k (job w ds n past) law a f e = omega (arith, open_ahead now k (job w ds n past) law a (open_more (left k (job w ds n past)) e))

module _ (ks : List Task) (law : AllLawful ks) (never : NeverTooMuch ks) (now : ℕ) (qs : List Seat) (kept : Kept ks now qs) where
  -- the keys that the machine compares
  key_at : (f : Progress → Option ℕ) (i : ℕ) → i < length ks → get_or (map f (shown_all ks qs)) i None ≡ f (shown (task_at ks i) (seat_at qs i))
  key_at f i b = get_or-map f (shown_all ks qs) i at_rest None (omega (arith, shown_length ks qs kept.same)) ∙ ap f (shown_at ks qs i kept.same b)

  none_late : late (state ks now qs) ≡ None
  none_late = none_chosen _ (λ j b. let c : j < length ks = omega (arith, length-map (shown_all ks qs) (late_due now), shown_length ks qs kept.same) in key_at (late_due now) j c ∙ late_none now (task_at ks j) (seat_at qs j) (ahead ks law never now qs kept j c))

  refuse : (r : Refusal) → (number r ≡ 19 → ⊥) → Next ks (record { answer = refused r; after = state ks now qs })
  refuse r h = record { now = now; seats = qs; kept = kept; is = refl; fine = h }

  -- a tick
  runs_next : (o : Option Pick) → Chosen (map (ready_due now) (shown_all ks qs)) o → Next ks (runs ks (state ks now qs) o)
  runs_next None h = record {
    now = now + 1;
    seats = qs;
    kept = kept_idle ks now qs kept (λ i b. ready_none now (task_at ks i) (seat_at qs i) (sym (key_at (ready_due now) i b) ∙ h i));
    is = refl;
    fine = λ e. omega arith;
  }
  runs_next (Some c) h =
      let i = c.number in
      let k = task_at ks i in
      let q = seat_at qs i in
      let b : i < length ks = omega (arith, h.within, length-map (shown_all ks qs) (ready_due now), shown_length ks qs kept.same) in
      let work = ready_some now c.key k q (sym (key_at (ready_due now) i b) ∙ h.here) in
      let t = ticked now k q (lawful_at ks law i b) (kept.good i b) (work_more now c.key (woke q) (left k q) work) (ahead ks law never now qs kept i b) in
      record {
        now = now + 1;
        seats = set qs i (after_tick k q);
        kept = kept_run ks now qs i c.key (after_tick k q) kept b work (λ j l. ready_urgent now c.key (task_at ks j) (seat_at qs j) (λ v e. h.lowest j v (key_at (ready_due now) j l ∙ e))) t;
        is = rw (shown_at ks qs i kept.same b, ← t.shows, shown_set ks qs i (after_tick k q));
        fine = λ e. omega arith;
      }

  tick_next : Next ks (do_tick ks (state ks now qs))
  tick_next = cond_both (leb (10 ^ 15) now) _ _ (Next ks)
      (λ t. refuse LastInstant (λ e. omega arith))
      (λ t. rw none_late (runs_next (front (state ks now qs)) (chosen (map (ready_due now) (shown_all ks qs)))))

  -- a wake
  wake_next : (i : ℕ) → Next ks (do_wake ks (state ks now qs) i)
  wake_next i = cond_both (not (ltb i (length ks))) _ _ (Next ks)
      (λ t. refuse NoTask (λ e. omega arith))
      (λ t. let b = ltb-true i (length ks) (not-false _ t) in
      let k = task_at ks i in
      let q = seat_at qs i in
      let shows = shown_at ks qs i kept.same b in
      cond_both (too_soon k now (progress_at (state ks now qs) i).last) _ _ (Next ks)
      (λ t. refuse TooSoon (λ e. omega arith))
      (λ t. let f = free_at now k q (rw shows at t) in
      cond_both (is_open (progress_at (state ks now qs) i).left) _ _ (Next ks)
      (λ t. absurd (not_open now k q (lawful_at ks law i b) (ahead ks law never now qs kept i b) f (rw shows at t)))
      (λ t. record {
        now = now;
        seats = set qs i (job now [] 0 (history k q));
        kept = kept_wake ks now qs i kept b (lawful_at ks law i b) f;
        is = rw (starts k now (history k q), shown_set ks qs i (job now [] 0 (history k q)));
        fine = λ e. omega arith;
      })))

  -- an end
  end_next : (i : ℕ) → Next ks (do_end ks (state ks now qs) i)
  end_next i = cond_both (not (ltb i (length ks))) _ _ (Next ks)
      (λ t. refuse NoTask (λ e. omega arith))
      (λ t. let b = ltb-true i (length ks) (not-false _ t) in
      let k = task_at ks i in
      let q = seat_at qs i in
      cond_both (not (is_front i (front (state ks now qs)))) _ _ (Next ks)
      (λ t. refuse NotFront (λ e. omega arith))
      (λ t. record {
        now = now;
        seats = set qs i (finish q);
        kept = kept_end ks now qs i kept b (lawful_at ks law i b) (front_more i b (front (state ks now qs)) (chosen (map (ready_due now) (shown_all ks qs))) (not-false _ t)) (ahead ks law never now qs kept i b);
        is = rw (shown_at ks qs i kept.same b, ← shown_finish k q, shown_set ks qs i (finish q));
        fine = λ e. omega arith;
      }))
    where
      front_more : (i : ℕ) → i < length ks → (o : Option Pick) → Chosen (map (ready_due now) (shown_all ks qs)) o → is_front i o ≡ true → More (left (task_at ks i) (seat_at qs i))
      front_more i b None h e = cc
      front_more i b (Some c) h e =
          let n = eqb-true i c.number e in
          work_more now c.key (woke (seat_at qs i)) (left (task_at ks i) (seat_at qs i))
          (ready_some now c.key (task_at ks i) (seat_at qs i) (cc (key_at (ready_due now) i b, h.here)))

  step_next : (c : Call) → Next ks (step ks (state ks now qs) c)
  step_next (wake i) = wake_next i
  step_next (end i) = end_next i
  step_next tick = tick_next

  none_due : NoneDue (state ks now qs)
  none_due i b =
      let c : i < length ks = omega (arith, shown_length ks qs kept.same) in
      rw (shown_at ks qs i kept.same c) (ahead_all now (task_at ks i) (seat_at qs i) (lawful_at ks law i c) (ahead ks law never now qs kept i c))

module _ (ks : List Task) (law : AllLawful ks) (never : NeverTooMuch ks) where
  holds_from : (cs : List Call) (s : State) (now : ℕ) (qs : List Seat) → Kept ks now qs → s ≡ state ks now qs → NoneDue (after_all ks s cs) × NeverOpen (answers ks s cs)
  holds_from [] s now qs kept e = (rw e (none_due ks law never now qs kept), tt)
  holds_from (c ∷ cs) s now qs kept e =
      let n : Next ks (step ks s c) = rw e (step_next ks law never now qs kept c) in
      let rest = holds_from cs (step ks s c).after n.now n.seats n.kept n.is in
      (rest.0, (n.fine, rest.1))

  runs_from : (cs : List Call) (s : State) (now : ℕ) (qs : List Seat) → Kept ks now qs → s ≡ state ks now qs → (after_all ks s cs).miss ≡ None
  runs_from [] s now qs kept e = rw e
  runs_from (c ∷ cs) s now qs kept e =
      let n : Next ks (step ks s c) = rw e (step_next ks law never now qs kept c) in
      runs_from cs (step ks s c).after n.now n.seats n.kept n.is

-- the first state
abbrev all_fresh : List Task → List Seat
all_fresh ks = replicate (length ks) fresh

fresh_shows : (ks : List Task) → asleep ks ≡ shown_all ks (all_fresh ks)
fresh_shows [] = refl
fresh_shows (k ∷ ks) = rw (fresh_shows ks)

fresh_kept : (ks : List Task) (now : ℕ) → Kept ks now (all_fresh ks)
fresh_kept ks now = record {
  same = length-replicate (length ks) fresh;
  good = λ i b. rw (get_or-replicate (length ks) i fresh fresh b) tt;
  busy = λ d. record {
    since = now;
    before = omega arith;
    full = omega arith;
    held = λ i b. rw (get_or-replicate (length ks) i fresh fresh b) tt;
  };
}

opens : (ks : List Task) (start : ℕ) → opened ks start ≡ state ks start (all_fresh ks)
opens ks start = rw (fresh_shows ks)

module _ (ks : List Task) (law : AllLawful ks) (fits : (t : ℕ) → demand_of_all ks t ≤ t) where
  never_too_much : NeverTooMuch ks
  never_too_much x y l rs r =
      let e : x + (y - x) ≡ y = omega arith in
      omega (arith, rw e at (all_never_more ks law rs x (y - x) r), fits (y - x))

  pub holds : (start : ℕ) → Holds ks start
  holds start cs = holds_from ks law never_too_much cs (opened ks start) start (all_fresh ks) (fresh_kept ks start) (opens ks start)

  -- and the machine never stops
  pub never_stops : (start : ℕ) (cs : List Call) → (after_all ks (opened ks start) cs).miss ≡ None
  never_stops start cs = runs_from ks law never_too_much cs (opened ks start) start (all_fresh ks) (fresh_kept ks start) (opens ks start)
