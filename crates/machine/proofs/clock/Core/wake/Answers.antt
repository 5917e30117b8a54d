use Rattle.std.proofs.Common.{◌≡◌, true, false, get_or, sym, ap, ◌∙◌, arith}
use Rattle.model.specs.Machine as model
use Rattle.machine.specs.declared.entry.Entry.{Entry}
use Rattle.machine.specs.declared.entry.Event.TheVariants.{Wake}
use Rattle.machine.specs.declared.entry.Phase.TheVariants.{Rest}
use Rattle.machine.specs.Events.{moved}
use Rattle.machine.specs.Views.{blank, task_of, works}
use Rattle.machine.specs.Calls.{tasks_of, state_of, stepped}
use Rattle.machine.proofs.Model.{rests, woken_progress, woken_task}
use Rattle.machine.proofs.Wakes.{told_at, wake_open, wake_done, moved_progress, moved_tasks, task_is}
use Rattle.machine.proofs.clock.Core.wake.Goals as goal

pub returns-then-works-clause-did : goal.returns-then-works-clause-did
returns-then-works-clause-did c =
    let s = c.args.self.now in
    let i = c.in_ok-i.i in
    let es = s.table.entries in
    let known = c.in_ok-i.ensures in
    let soon = told_at (λ (e : Entry). model.too_soon (task_of e) s.now e.last) false es i c.index-self-i.result (omega arith) c.if-soon.ensures in
    let opened = told_at (λ (e : Entry). works e.phase) true es i c.index-self-i.result (omega arith) c.if-works.ensures in
    wake_open s i known.2 known.1 soon opened ∙ ap (model.do_wake (tasks_of s) (state_of s)) known.0

pub returns : goal.returns
returns c =
    let s = c.args.self.now in
    let i = c.in_ok-i.i in
    let es = s.table.entries in
    let known = c.in_ok-i.ensures in
    let old = get_or es i blank in
    let soon = told_at (λ (e : Entry). model.too_soon (task_of e) s.now e.last) false es i c.index-self-i.result (omega arith) c.if-soon.ensures in
    let opened = told_at (λ (e : Entry). works e.phase) false es i c.index-self-i.result (omega arith) c.if-works.ensures in
    let rest : old.phase ≡ Rest = rests old.phase opened in
    let t = c.start.new.self in
    let told = c.start.ensures in
    let e = moved old (Wake s.now) in
    let g = moved_progress s t i e told.count told.entries (model.started (model.task_at (tasks_of s) i) s.now)
    (woken_progress old s.now rest ∙ ap (λ k. model.started k s.now) (sym (task_is s i known.1))) in
    record {
      did = ap (λ g. stepped model.done (record { now = s.now; miss = (state_of s).miss; progress = g })) g
          ∙ wake_done s i known.2 known.1 soon opened
          ∙ ap (model.do_wake (tasks_of s) (state_of s)) known.0;
      tasks = moved_tasks s t i e told.count told.entries known.1 (woken_task old s.now rest);
    }
