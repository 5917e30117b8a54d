-- A machine on the told tasks does what the machine on the exact ones does.
use Rattle.std.proofs.Common.{◌≡◌, ℕ, zero, suc, ◌+◌, ◌^◌, ◌<◌, ◌≤◌, Bool, true, false, cond, not, ltb, leb, List, [], ◌∷◌, map, length, get_or, set, Some, None, Option, sym, refl, ap, ◌∙◌, inl, inr, arith}
use Rattle.std.proofs.Math.ListN.{get_or-map}
use Rattle.std.proofs.lemmas.List.{length-map, map-set}
use Rattle.std.proofs.lemmas.Bool.Decides.{nat_tests}
use Rattle.std.proofs.lemmas.Bool.{cases_Bool, ltb-true, not-false, cond_both}
use Rattle.model.specs.declared.refusal.Refusal.{Refusal}
use Rattle.model.specs.declared.refusal.Refusal.TheVariants.{Stopped, NoTask, TooSoon, JobOpen, LastInstant, NotFront}
use Rattle.model.specs.Task.{Piece, Task, Ordered, Lawful, AllLawful}
use Rattle.model.specs.Machine.{Call, wake, end, tick, Progress, State, Step, Pick, Chosen, at_rest, asleep, opened, due_if, ready_due, late_due, least, front, late, is_front, no_task, task_at, progress_at, piece_number, limit_of, limit, rest_of, too_soon, is_open, stopped, started, runs, misses, finished, one_more, ran_tick, refuses, do_wake, do_end, do_tick, step, after_all, answers}
use Rattle.model.specs.Told.{told_piece, told_task, told_tasks, told_progress, told_state, ToldSuffices}
use Rattle.model.proofs.Each.{lawful_at, asleep_at}
use Rattle.model.proofs.Least.{chosen}
use Rattle.model.proofs.Asked.Sums.{sum_told}

-- lists
set_each : {A : Type 0} (P : A → Type 0) (xs : List A) (i : ℕ) (x d : A) → P x → ((j : ℕ) → P (get_or xs j d)) → (j : ℕ) → P (get_or (set xs i x) j d)
set_each P [] i x d p h j = h j
set_each P (y ∷ ys) zero x d p h zero = p
set_each P (y ∷ ys) zero x d p h (suc j) = h (suc j)
set_each P (y ∷ ys) (suc i) x d p h zero = h 0
set_each P (y ∷ ys) (suc i) x d p h (suc j) = set_each P ys i x d p (λ n. h (suc n)) j

-- what of a machine does not depend on costs
task_told : (ks : List Task) (i : ℕ) → task_at (told_tasks ks) i ≡ told_task (task_at ks i)
task_told ks i = get_or-map told_task ks i no_task

progress_told : (s : State) (i : ℕ) → progress_at (told_state s) i ≡ told_progress (progress_at s i)
progress_told s i = get_or-map told_progress s.progress i at_rest

due_told : (counts : ℕ → ℕ → Bool) (last : Option ℕ) (l : List Piece) → due_if counts last (map told_piece l) ≡ due_if counts last l
due_told counts last [] = refl
due_told counts last (p ∷ ps) = refl

keys_told : (counts : ℕ → ℕ → Bool) (gs : List Progress) → map (λ g. due_if counts g.last g.left) (map told_progress gs) ≡ map (λ g. due_if counts g.last g.left) gs
keys_told counts [] = refl
keys_told counts (g ∷ gs) = cc (due_told counts g.last g.left, keys_told counts gs)

front_told : (s : State) → front (told_state s) ≡ front s
front_told s = ap least (keys_told (λ r d. leb r s.now) s.progress)

late_told : (s : State) → late (told_state s) ≡ late s
late_told s = ap least (keys_told (λ r d. leb d s.now) s.progress)

open_told : (l : List Piece) → is_open (map told_piece l) ≡ is_open l
open_told [] = refl
open_told (p ∷ ps) = refl

number_told : (k : Task) (g : Progress) → piece_number (told_task k) (told_progress g) ≡ piece_number k g
number_told k g = simp length-map

rest_told : (l : List Piece) → rest_of (map told_piece l) ≡ map told_piece (rest_of l)
rest_told [] = refl
rest_told (p ∷ ps) = refl

finished_told : (g : Progress) → finished (told_progress g) ≡ told_progress (finished g)
finished_told g = rw (rest_told g.left)

-- the invariant: a job ran no more than 10000, only since its wake, and what is left of it is due within 10000 of that
abbrev pub DueWithin : ℕ → List Piece → Type 0
DueWithin n [] = Unit {0}
DueWithin n (p ∷ ps) = (p.due ≤ n) × DueWithin n ps

abbrev pub Young : ℕ → Option ℕ → ℕ → List Piece → Type 0
Young now None ticks [] = ticks ≡ 0
Young now None ticks (p ∷ ps) = ⊥
Young now (Some w) ticks l = (w + ticks ≤ now) × (ticks ≤ 10000) × DueWithin 10000 l

abbrev pub YoungOne : ℕ → Progress → Type 0
YoungOne now g = Young now g.last (g.ran_before + g.ran_now) g.left

abbrev pub AllYoung : State → Type 0
AllYoung s = (i : ℕ) → YoungOne s.now (progress_at s i)

young_few : (now : ℕ) (last : Option ℕ) (ticks : ℕ) (l : List Piece) → Young now last ticks l → ticks ≤ 10000
young_few now None ticks [] y = omega arith
young_few now None ticks (p ∷ ps) y = absurd y
young_few now (Some w) ticks l y = y.1

young_later : (now : ℕ) (last : Option ℕ) (ticks : ℕ) (l : List Piece) → Young now last ticks l → Young (now + 1) last ticks l
young_later now None ticks [] y = y
young_later now None ticks (p ∷ ps) y = y
young_later now (Some w) ticks l y = (omega arith, y.1, y.2)

within_rest : (n : ℕ) (l : List Piece) → DueWithin n l → DueWithin n (rest_of l)
within_rest n [] d = tt
within_rest n (p ∷ ps) d = d.1

young_rest : (now : ℕ) (last : Option ℕ) (ticks : ℕ) (l : List Piece) → Young now last ticks l → Young now last (ticks + 0) (rest_of l)
young_rest now None ticks [] y = omega arith
young_rest now None ticks (p ∷ ps) y = absurd y
young_rest now (Some w) ticks l y = (omega arith, omega arith, within_rest 10000 l y.2)

due_within : (n from top : ℕ) (l : List Piece) → Ordered from top l → top ≤ n → (from ≤ top) × DueWithin n l
due_within n from top [] o b = (o, tt)
due_within n from top (p ∷ ps) o b = let r = due_within n p.due top ps o.3 b in (omega arith, (omega arith, r.1))

young_start : (now : ℕ) (k : Task) → Lawful k → YoungOne now (started k now)
young_start now k law = (omega arith, omega arith, (due_within 10000 0 k.spacing k.pieces law.ordered law.spacing_high).1)

young_finished : (now : ℕ) (g : Progress) → YoungOne now g → YoungOne now (finished g)
young_finished now g y = young_rest now g.last (g.ran_before + g.ran_now) g.left y

-- a tick of a piece that is not late
in_time : (now w : ℕ) (p : Piece) (ps : List Piece) → due_if (λ r d. leb d now) (Some w) (p ∷ ps) ≡ None → now < w + p.due
in_time now w p ps n = grind arith

young_more : (now key : ℕ) (last : Option ℕ) (before r : ℕ) (l : List Piece) → due_if (λ r d. leb d now) last l ≡ None → due_if (λ r d. leb r now) last l ≡ Some key → Young now last (before + r) l → Young (now + 1) last (before + (r + 1)) l
young_more now key last before r [] n e y = cc
young_more now key None before r (p ∷ ps) n e y = absurd y
young_more now key (Some w) before r (p ∷ ps) n e y = let b = in_time now w p ps n in (omega arith, omega arith, y.2)

young_run : (now key : ℕ) (k : Task) (g : Progress) → late_due now g ≡ None → ready_due now g ≡ Some key → YoungOne now g → YoungOne (now + 1) (ran_tick k g)
young_run now key k g n e y =
    let more = young_more now key g.last g.ran_before g.ran_now g.left n e y in
    cond_both (leb (limit k g) (g.ran_now + 1)) (finished (one_more g)) (one_more g) (YoungOne (now + 1))
    (λ t. young_finished (now + 1) (one_more g) more)
    (λ t. more)

ends_told : (now : ℕ) (k : Task) (g : Progress) → late_due now g ≡ None → YoungOne now g → leb (limit (told_task k) (told_progress g)) (g.ran_now + 1) ≡ leb (limit k g) (g.ran_now + 1)
ends_told now k g n y = by g.last g.left n y
  where
    by : (last : Option ℕ) (l : List Piece) → due_if (λ r d. leb d now) last l ≡ None → Young now last (g.ran_before + g.ran_now) l →
        leb (limit_of (told_task k) (told_progress g) (map told_piece l)) (g.ran_now + 1) ≡ leb (limit_of k g l) (g.ran_now + 1)
    by last [] n y = refl
    by None (p ∷ ps) n y = absurd y
    by (Some w) (p ∷ ps) n y = let b = in_time now w p ps n in grind (arith, nat_tests)

ran_told : (now : ℕ) (k : Task) (g : Progress) → late_due now g ≡ None → YoungOne now g → ran_tick (told_task k) (told_progress g) ≡ told_progress (ran_tick k g)
ran_told now k g n y =
    elim (cases_Bool (leb (limit k g) (g.ran_now + 1))) [ inl t ↦ rw (ends_told now k g n y, t) (finished_told (one_more g)) | inr t ↦ rw (ends_told now k g n y, t) ]

-- steps
pub record Same (st' st : Step) : Type 0 where
  pub answer : st'.answer ≡ st.answer
  pub after : st'.after ≡ told_state st.after
  pub young : AllYoung st.after

same_cond : (b' b : Bool) (x' y' x y : Step) → b' ≡ b → (b ≡ true → Same x' x) → (b ≡ false → Same y' y) → Same (cond b' x' y') (cond b x y)
same_cond b' b x' y' x y e f g = elim (cases_Bool b) [ inl t ↦ rw (e, t) (f t) | inr t ↦ rw (e, t) (g t) ]

module _ (ks : List Task) (law : AllLawful ks) (s : State) (young : AllYoung s) where
  refuse : (e : Refusal) → Same (refuses (told_state s) e) (refuses s e)
  refuse e = record { answer = refl; after = refl; young = young }

  set_told : (now i : ℕ) (g' g : Progress) → g' ≡ told_progress g → record { now = now; miss = s.miss; progress = set (map told_progress s.progress) i g' } ≡ told_state (record { now = now; miss = s.miss; progress = set s.progress i g })
  set_told now i g' g e = rw (e, map-set told_progress s.progress i g)

  number_at : (i : ℕ) → piece_number (task_at (told_tasks ks) i) (progress_at (told_state s) i) ≡ piece_number (task_at ks i) (progress_at s i)
  number_at i = rw (task_told ks i, progress_told s i) (number_told (task_at ks i) (progress_at s i))

  -- a wake
  wake_same : (i : ℕ) → Same (do_wake (told_tasks ks) (told_state s) i) (do_wake ks s i)
  wake_same i =
      let k = task_at ks i in
      let g = progress_at s i in
      let told_k = task_told ks i in
      let told_g = progress_told s i in
      same_cond (stopped s.miss) (stopped s.miss) _ _ _ _ refl (λ t. refuse Stopped) (λ t.
      same_cond _ (not (ltb i (length ks))) _ _ _ _ (ap (λ n. not (ltb i n)) (length-map ks told_task)) (λ t. refuse NoTask) (λ b.
      same_cond _ (too_soon k s.now g.last) _ _ _ _ (cc) (λ t. refuse TooSoon) (λ t.
      same_cond _ (is_open g.left) _ _ _ _ (ap (λ h. is_open h.left) told_g ∙ open_told g.left) (λ t. refuse JobOpen) (λ t.
      record {
        answer = refl;
        after = set_told s.now i _ (started k s.now) (rw told_k);
        young = set_each (YoungOne s.now) s.progress i (started k s.now) at_rest (young_start s.now k (lawful_at ks law i (ltb-true i (length ks) (not-false _ b)))) young;
      }))))

  -- an end
  end_same : (i : ℕ) → Same (do_end (told_tasks ks) (told_state s) i) (do_end ks s i)
  end_same i =
      let g = progress_at s i in
      same_cond (stopped s.miss) (stopped s.miss) _ _ _ _ refl (λ t. refuse Stopped) (λ t.
      same_cond _ (not (ltb i (length ks))) _ _ _ _ (ap (λ n. not (ltb i n)) (length-map ks told_task)) (λ t. refuse NoTask) (λ t.
      same_cond _ (not (is_front i (front s))) _ _ _ _ (ap (λ o. not (is_front i o)) (front_told s)) (λ t. refuse NotFront) (λ t.
      record {
        answer = refl;
        after = set_told s.now i _ (finished g) (rw (progress_told s i) (finished_told g));
        young = set_each (YoungOne s.now) s.progress i (finished g) at_rest (young_finished s.now g (young i)) young;
      })))

  -- a tick
  all_later : (i : ℕ) → YoungOne (s.now + 1) (progress_at s i)
  all_later i = let g = progress_at s i in young_later s.now g.last (g.ran_before + g.ran_now) g.left (young i)

  runs_same : ((i : ℕ) → late_due s.now (progress_at s i) ≡ None) → (o : Option Pick) → Chosen (map (ready_due s.now) s.progress) o → Same (runs (told_tasks ks) (told_state s) o) (runs ks s o)
  runs_same n None h = record { answer = refl; after = refl; young = all_later }
  runs_same n (Some c) h =
      let i = c.number in
      let k = task_at ks i in
      let g = progress_at s i in
      let told_k = task_told ks i in
      let told_g = progress_told s i in
      let ready = sym (get_or-map (ready_due s.now) s.progress i at_rest) ∙ h.here in
      record {
        answer = rw (number_at i);
        after = set_told (s.now + 1) i _ (ran_tick k g) (rw (told_k, told_g) (ran_told s.now k g (n i) (young i)));
        young = set_each (YoungOne (s.now + 1)) s.progress i (ran_tick k g) at_rest (young_run s.now c.key k g (n i) ready (young i)) all_later;
      }

  misses_same : (o : Option Pick) → Chosen (map (late_due s.now) s.progress) o → Same (misses (told_tasks ks) (told_state s) o) (misses ks s o)
  misses_same None h = rw (front_told s)
      (runs_same (λ i. sym (get_or-map (late_due s.now) s.progress i at_rest) ∙ h i) (front s) (chosen (map (ready_due s.now) s.progress)))
  misses_same (Some c) h =
      let i = c.number in
      record {
        answer = rw (number_at i);
        after = rw (number_at i);
        young = young;
      }

  tick_same : Same (do_tick (told_tasks ks) (told_state s)) (do_tick ks s)
  tick_same =
      same_cond (stopped s.miss) (stopped s.miss) _ _ _ _ refl (λ t. refuse Stopped) (λ t.
      same_cond (leb (10 ^ 15) s.now) (leb (10 ^ 15) s.now) _ _ _ _ refl (λ t. refuse LastInstant) (λ t.
      rw (late_told s) (misses_same (late s) (chosen (map (late_due s.now) s.progress)))))

  pub step_same : (c : Call) → Same (step (told_tasks ks) (told_state s) c) (step ks s c)
  step_same (wake i) = wake_same i
  step_same (end i) = end_same i
  step_same tick = tick_same

-- runs
pub record SameRun (ks : List Task) (s : State) (cs : List Call) : Type 0 where
  pub answers_same : answers (told_tasks ks) (told_state s) cs ≡ answers ks s cs
  pub after_same : after_all (told_tasks ks) (told_state s) cs ≡ told_state (after_all ks s cs)
  pub young_after : AllYoung (after_all ks s cs)

pub run_same : (ks : List Task) → AllLawful ks → (cs : List Call) (s : State) → AllYoung s → SameRun ks s cs
run_same ks law [] s young = record { answers_same = refl; after_same = refl; young_after = young }
run_same ks law (c ∷ cs) s young =
    let st = step_same ks law s young c in
    let r = run_same ks law cs (step ks s c).after st.young in
    record {
      answers_same = rw (st.answer, st.after, r.answers_same);
      after_same = rw st.after r.after_same;
      young_after = r.young_after;
    }

asleep_told : (ks : List Task) → asleep (told_tasks ks) ≡ map told_progress (asleep ks)
asleep_told [] = refl
asleep_told (k ∷ ks) = rw (asleep_told ks)

pub opened_told : (ks : List Task) (start : ℕ) → opened (told_tasks ks) start ≡ told_state (opened ks start)
opened_told ks start = rw (asleep_told ks)

asleep_young : (now : ℕ) (ks : List Task) (i : ℕ) → YoungOne now (get_or (asleep ks) i at_rest)
asleep_young now ks i = rw (asleep_at ks i) (omega arith)

pub answers_told : (ks : List Task) → AllLawful ks → (start : ℕ) (cs : List Call) → answers (told_tasks ks) (opened (told_tasks ks) start) cs ≡ answers ks (opened ks start) cs
answers_told ks law start cs = rw (opened_told ks start) (run_same ks law cs (opened ks start) (asleep_young start ks)).answers_same

pub after_told : (ks : List Task) → AllLawful ks → (start : ℕ) (cs : List Call) → after_all (told_tasks ks) (opened (told_tasks ks) start) cs ≡ told_state (after_all ks (opened ks start) cs)
after_told ks law start cs = rw (opened_told ks start) (run_same ks law cs (opened ks start) (asleep_young start ks)).after_same

pub told_suffices : (ks : List Task) → AllLawful ks → ToldSuffices ks
told_suffices ks law = record {
  same_answers = answers_told ks law;
  same_states = after_told ks law;
  same_excess = λ t b. (λ h. omega (arith, sum_told ks t), λ h. omega (arith, sum_told ks t));
}
