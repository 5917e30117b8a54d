-- The front's entry ends its piece or runs a tick.
use Rattle.std.proofs.Common.{◌≡◌, ℕ, ◌+◌, ◌<◌, ◌≤◌, eqb, leb, drop, Some, Option, sym, refl, ap, ◌∙◌, arith}
use Rattle.std.proofs.lemmas.List.{drop_all}
use Rattle.std.proofs.lemmas.Bool.{cond-true, cond-false, cond_both, eqb-true}
use Rattle.model.specs.Machine as model
use Rattle.machine.specs.declared.numbers.Numbers.{Numbers}
use Rattle.machine.specs.declared.entry.Phase.{Phase}
use Rattle.machine.specs.declared.entry.Phase.TheVariants.{Rest, Ready, Held}
use Rattle.machine.specs.declared.entry.Event.{Event}
use Rattle.machine.specs.declared.entry.Event.TheVariants.{Wake, End, Tick, Release}
use Rattle.machine.specs.declared.entry.Entry.{Entry}
use Rattle.machine.specs.Events.{limit_at, followed, moved_in, moved, GoodPhase, GoodEntry}
use Rattle.machine.specs.Keys.{ready_in, ready_key}
use Rattle.machine.specs.Views.{piece_at, pieces_of, task_of, left_of, ran_of, progress_of}
use Rattle.machine.proofs.Model.{left_is, pieces_long}

module _ (n : Numbers) (last : Option ℕ) (q now : ℕ) where
  followed_left : q ≤ n.count → left_of (pieces_of n) (followed n last q now) ≡ drop q (pieces_of n)
  followed_left l = cond_both (eqb q n.count) _ _ (λ f. left_of (pieces_of n) f ≡ drop q (pieces_of n))
      (λ e. sym (drop_all q (pieces_of n) (omega (arith, pieces_long n, eqb-true q n.count e))))
      (λ e. cond_both (leb (model.since last (piece_at n q).ready) now) (Ready q 0) (Held q) (λ f. left_of (pieces_of n) f ≡ drop q (pieces_of n)) (λ _. refl) (λ _. refl))

  followed_ran : ran_of (followed n last q now) ≡ 0
  followed_ran = cond_both (eqb q n.count) _ _ (λ f. ran_of f ≡ 0) (λ _. refl)
      (λ e. cond_both (leb (model.since last (piece_at n q).ready) now) (Ready q 0) (Held q) (λ f. ran_of f ≡ 0) (λ _. refl) (λ _. refl))

-- an entry's progress, at another phase
abbrev pub view : Entry → Phase → model.Progress
view e f = record { last = e.last; left = left_of (pieces_of e.task) f; ran_now = ran_of f; ran_before = e.before }

-- the piece p, which ran r, is finished
finish_is : (e : Entry) (p r m now : ℕ) → p < e.task.count → ◌≡◌ {A = model.Progress}
    (progress_of (record { task = e.task; last = e.last; before = e.before + m; phase = followed e.task e.last (p + 1) now }))
    (record { last = e.last; left = model.rest_of (drop p (pieces_of e.task)); ran_now = 0; ran_before = e.before + m })
finish_is e p r m now l =
    let left : left_of (pieces_of e.task) (followed e.task e.last (p + 1) now) ≡ model.rest_of (drop p (pieces_of e.task)) =
    followed_left e.task e.last (p + 1) now (omega arith) ∙ sym (ap model.rest_of (left_is e.task p l)) in
    let ran = followed_ran e.task e.last (p + 1) now in
    λ k. record { last = e.last; left = left k; ran_now = ran k; ran_before = e.before + m }

ended_in : (e : Entry) (f : Phase) (now a : ℕ) → GoodPhase e.task e.before f → ready_in e.task e.last f ≡ Some a → progress_of (moved_in e f (End now)) ≡ model.finished (view e f)
ended_in e Rest now a g h = absurd (cc)
ended_in e (Ready p r) now a g h = finish_is e p r r now g.0
ended_in e (Held p) now a g h = absurd (cc)

pub ended_progress : (e : Entry) (now a : ℕ) → GoodEntry e → ready_key e ≡ Some a → progress_of (moved e (End now)) ≡ model.finished (progress_of e)
ended_progress e now a g h = ended_in e e.phase now a g.0 h

limit_is : (e : Entry) (p r : ℕ) → p < e.task.count → model.limit (task_of e) (view e (Ready p r)) ≡ limit_at e.task e.before p
limit_is e p r l = ap (model.limit_of (task_of e) (view e (Ready p r))) (left_is e.task p l)

ticked_in : (e : Entry) (f : Phase) (now a : ℕ) → GoodPhase e.task e.before f → ready_in e.task e.last f ≡ Some a → progress_of (moved_in e f (Tick now)) ≡ model.ran_tick (task_of e) (view e f)
ticked_in e Rest now a g h = absurd (cc)
ticked_in e (Ready p r) now a g h = cond_both (leb (limit_at e.task e.before p) (r + 1)) _ _ (λ m. progress_of m ≡ model.ran_tick (task_of e) (view e (Ready p r)))
    (λ t. finish_is e p r (r + 1) now g.0 ∙ sym (cond-true _ _ _ (ap (λ l. leb l (r + 1)) (limit_is e p r g.0) ∙ t)))
    (λ t. sym (cond-false _ _ _ (ap (λ l. leb l (r + 1)) (limit_is e p r g.0) ∙ t)))
ticked_in e (Held p) now a g h = absurd (cc)

pub ticked_progress : (e : Entry) (now a : ℕ) → GoodEntry e → ready_key e ≡ Some a → progress_of (moved e (Tick now)) ≡ model.ran_tick (task_of e) (progress_of e)
ticked_progress e now a g h = ticked_in e e.phase now a g.0 h

-- the task stays
task_in : (e : Entry) (f : Phase) (ev : Event) → task_of (moved_in e f ev) ≡ task_of e
task_in e Rest (Wake now) = refl
task_in e Rest (End now) = refl
task_in e Rest (Tick now) = refl
task_in e Rest Release = refl
task_in e (Ready p r) (Wake now) = refl
task_in e (Ready p r) (End now) = refl
task_in e (Ready p r) (Tick now) = cond_both (leb (limit_at e.task e.before p) (r + 1)) _ _ (λ m. task_of m ≡ task_of e) (λ _. refl) (λ _. refl)
task_in e (Ready p r) Release = refl
task_in e (Held p) (Wake now) = refl
task_in e (Held p) (End now) = refl
task_in e (Held p) (Tick now) = refl
task_in e (Held p) Release = refl

pub task_stays : (e : Entry) (ev : Event) → task_of (moved e ev) ≡ task_of e
task_stays e ev = task_in e e.phase ev
