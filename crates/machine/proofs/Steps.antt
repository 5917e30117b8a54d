-- What an end and a tick do, by the core's entries.
use Rattle.std.proofs.Common.{◌≡◌, ℕ, ◌<◌, true, false, cond, not, eqb, map, get_or, take, set, Some, None, Ok, Err, Option, sym, refl, ap, ◌∙◌}
use Rattle.std.specs.Option.{ok_or}
use Rattle.std.proofs.lemmas.Bool.{ne_eqb, eq-eqb}
use Rattle.model.specs.declared.refusal.Refusal.TheVariants.{NotFront}
use Rattle.model.specs.Machine as model
use Rattle.model.specs.Machine.{Pick}
use Rattle.machine.specs.declared.entry.Event.{Event}
use Rattle.machine.specs.declared.entry.Event.TheVariants.{End, Tick}
use Rattle.machine.specs.declared.table.Table.{Table}
use Rattle.machine.specs.declared.clock.Core.{Core}
use Rattle.machine.specs.Events.{moved}
use Rattle.machine.specs.Keys.{ready_key}
use Rattle.machine.specs.Views.{blank, task_of, progress_of}
use Rattle.machine.specs.Calls.{tasks_of, state_of, miss_of, stepped}
use Rattle.machine.proofs.Wakes.{a_task, task_is, progress_is, moved_progress, moved_tasks}
use Rattle.machine.proofs.Tables.{front_key}
use Rattle.machine.proofs.Ends.{ended_progress, ticked_progress, task_stays}
use Rattle.machine.proofs.Fronts.{front_keys}

-- what `ok_or` was asked of, by its answer
pub ok_or_some : {X E : Type 0} (o : Option X) (e : E) (x : X) → ok_or o e ≡ Ok x → o ≡ Some x
ok_or_some None e x h = absurd (cc)
ok_or_some (Some y) e x h = cc

pub ok_or_none : {X E : Type 0} (o : Option X) (e f : E) → ok_or o e ≡ Err f → (o ≡ None) × (f ≡ e)
ok_or_none None e f h = (refl, cc)
ok_or_none (Some y) e f h = absurd (cc)

module _ (c : Core) (i : ℕ) (runs : model.stopped (miss_of c.miss) ≡ false) where
  module _ (within : i < c.table.count) where
    -- by the front, as the table tells it
    end_is : (o : Option model.Pick) → model.front (state_of c) ≡ o → cond (not (model.is_front i o)) (model.refuses (state_of c) NotFront) (record { answer = model.done; after = model.with_progress (state_of c) i (model.finished (model.progress_at (state_of c) i)) }) ≡ model.do_end (tasks_of c) (state_of c) i
    end_is o f = let p = a_task c i within in rw (runs, p, f)

    pub end_no_front : model.least (map ready_key (take c.table.count c.table.entries)) ≡ None → stepped (model.refused NotFront) (state_of c) ≡ model.do_end (tasks_of c) (state_of c) i
    end_no_front f = end_is None (front_keys c ∙ f)

    pub end_other_front : (x : Pick) → model.least (map ready_key (take c.table.count c.table.entries)) ≡ Some x → (x.number ≡ i → ⊥) → stepped (model.refused NotFront) (state_of c) ≡ model.do_end (tasks_of c) (state_of c) i
    end_other_front x f ne = let q : eqb i x.number ≡ false = ne_eqb i x.number (λ e. ne (sym e)) in
        sym (ap (λ b. cond (not b) (model.refuses (state_of c) NotFront) (record { answer = model.done; after = model.with_progress (state_of c) i (model.finished (model.progress_at (state_of c) i)) })) q) ∙ end_is (Some x) (front_keys c ∙ f)

    pub end_done : (x : Pick) → model.least (map ready_key (take c.table.count c.table.entries)) ≡ Some x → x.number ≡ i → record { answer = model.done; after = model.with_progress (state_of c) i (model.finished (model.progress_at (state_of c) i)) } ≡ model.do_end (tasks_of c) (state_of c) i
    end_done x f e = let q : eqb i x.number ≡ true = eq-eqb i x.number (sym e) in
        sym (ap (λ b. cond (not b) (model.refuses (state_of c) NotFront) (record { answer = model.done; after = model.with_progress (state_of c) i (model.finished (model.progress_at (state_of c) i)) })) q) ∙ end_is (Some x) (front_keys c ∙ f)

-- the front's entry, moved
module _ (c : Core) (x : Pick) (f : model.least (map ready_key (take c.table.count c.table.entries)) ≡ Some x) (l : x.number < c.table.count) (t : Table) (same : t.count ≡ c.table.count) where
  pub ended : t.entries ≡ set c.table.entries x.number (moved (get_or c.table.entries x.number blank) (End c.now))
      → map progress_of (take t.count t.entries) ≡ set (state_of c).progress x.number (model.finished (model.progress_at (state_of c) x.number))
  ended e = moved_progress c t x.number _ same e _
      (ended_progress (get_or c.table.entries x.number blank) c.now x.key (c.table.good x.number l) (front_key c.table ready_key x f l)
      ∙ ap model.finished (sym (progress_is c x.number l)))

  pub ticked : t.entries ≡ set c.table.entries x.number (moved (get_or c.table.entries x.number blank) (Tick c.now))
      → map progress_of (take t.count t.entries) ≡ set (state_of c).progress x.number (model.ran_tick (model.task_at (tasks_of c) x.number) (model.progress_at (state_of c) x.number))
  ticked e = moved_progress c t x.number _ same e _
      (ticked_progress (get_or c.table.entries x.number blank) c.now x.key (c.table.good x.number l) (front_key c.table ready_key x f l)
      ∙ (let p = sym (task_is c x.number l) in let q = sym (progress_is c x.number l) in λ k. model.ran_tick (p k) (q k)))

  pub same_tasks : (ev : Event) → t.entries ≡ set c.table.entries x.number (moved (get_or c.table.entries x.number blank) ev) → map task_of (take t.count t.entries) ≡ tasks_of c
  same_tasks ev e = moved_tasks c t x.number _ same e l (task_stays (get_or c.table.entries x.number blank) ev)
