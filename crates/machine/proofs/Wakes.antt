-- What a wake does, by the core's entries.
use Rattle.std.proofs.Common.{◌≡◌, ℕ, ◌<◌, ◌≤◌, true, false, ltb, List, map, length, get_or, take, set, is_some, Some, None, Option, sym, refl, ap, ◌∙◌, arith}
use Rattle.std.proofs.lemmas.Bool.{lt-ltb}
use Rattle.std.proofs.lemmas.List.{get_or_default}
use Rattle.model.specs.declared.refusal.Refusal.TheVariants.{JobOpen}
use Rattle.model.specs.Machine as model
use Rattle.machine.specs.declared.entry.Entry.{Entry}
use Rattle.machine.specs.declared.table.Table.{Table}
use Rattle.machine.specs.declared.answer.Miss.{Miss}
use Rattle.machine.specs.declared.clock.Core.{Core}
use Rattle.machine.specs.Views.{blank, task_of, progress_of, works}
use Rattle.machine.specs.Calls.{tasks_of, state_of, miss_of, stepped}
use Rattle.machine.proofs.Keys.{seen_long, seen_at, seen_set, seen_kept}
use Rattle.machine.proofs.Model.{open_is}

pub runs_is : (m : Option Miss) → false ≡ is_some m → model.stopped (miss_of m) ≡ false
runs_is None e = refl
runs_is (Some m) e = sym e

-- what is told of a read entry, at the default of the contracts
pub told_at : {X : Type 0} (f : Entry → X) (x : X) (es : List Entry) (i : ℕ) (d : Entry) → i < length es → x ≡ f (get_or es i d) → f (get_or es i blank) ≡ x
told_at f x es i d l e = ap f (get_or_default es i blank d l) ∙ sym e

module _ (c : Core) where
  pub all_fit : c.table.count ≤ length c.table.entries
  all_fit = omega (arith, c.table.few, c.table.long)

  pub tasks_long : length (tasks_of c) ≡ c.table.count
  tasks_long = seen_long task_of c.table.count c.table.entries all_fit

  module _ (i : ℕ) where
    module _ (within : i < c.table.count) where
      pub a_task : ltb i (length (tasks_of c)) ≡ true
      a_task = lt-ltb i (length (tasks_of c)) (omega (arith, tasks_long))

      pub task_is : model.task_at (tasks_of c) i ≡ task_of (get_or c.table.entries i blank)
      task_is = seen_at task_of c.table.count c.table.entries all_fit i model.no_task within

      pub progress_is : model.progress_at (state_of c) i ≡ progress_of (get_or c.table.entries i blank)
      progress_is = seen_at progress_of c.table.count c.table.entries all_fit i model.at_rest within

  -- one entry of the table moves
  module _ (t : Table) (i : ℕ) (e : Entry) (same : t.count ≡ c.table.count) (es : t.entries ≡ set c.table.entries i e) where
    pub moved_progress : (g : model.Progress) → progress_of e ≡ g → map progress_of (take t.count t.entries) ≡ set (state_of c).progress i g
    moved_progress g q = (λ k. map progress_of (take (same k) (es k))) ∙ seen_set progress_of c.table.count c.table.entries all_fit i e ∙ ap (set (state_of c).progress i) q

    pub moved_tasks : i < c.table.count → task_of e ≡ task_of (get_or c.table.entries i blank) → map task_of (take t.count t.entries) ≡ tasks_of c
    moved_tasks l q = (λ k. map task_of (take (same k) (es k))) ∙ seen_kept task_of c.table.count c.table.entries all_fit i e l q

  module _ (i : ℕ) (runs : model.stopped (miss_of c.miss) ≡ false) where
    module _ (within : i < c.table.count) where
      soon_is : model.too_soon (model.task_at (tasks_of c) i) c.now (model.progress_at (state_of c) i).last ≡ model.too_soon (task_of (get_or c.table.entries i blank)) c.now (get_or c.table.entries i blank).last
      soon_is = λ k. model.too_soon (task_is i within k) c.now (progress_is i within k).last

      opens : model.is_open (model.progress_at (state_of c) i).left ≡ works (get_or c.table.entries i blank).phase
      opens = ap (λ (g : model.Progress). model.is_open g.left) (progress_is i within) ∙ open_is (get_or c.table.entries i blank) (c.table.good i within)

      module _ (fine : model.too_soon (task_of (get_or c.table.entries i blank)) c.now (get_or c.table.entries i blank).last ≡ false) where
        pub wake_open : works (get_or c.table.entries i blank).phase ≡ true → stepped (model.refused JobOpen) (state_of c) ≡ model.do_wake (tasks_of c) (state_of c) i
        wake_open w = let p = a_task i within in let q = soon_is ∙ fine in let o = opens ∙ w in rw (runs, p, q, o)

        pub wake_done : works (get_or c.table.entries i blank).phase ≡ false → record { answer = model.done; after = model.with_progress (state_of c) i (model.started (model.task_at (tasks_of c) i) c.now) } ≡ model.do_wake (tasks_of c) (state_of c) i
        wake_done w = let p = a_task i within in let q = soon_is ∙ fine in let o = opens ∙ w in rw (runs, p, q, o)
