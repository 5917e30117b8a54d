use Rattle.std.proofs.Common.{ℕ, ◌+◌, ◌<◌, List, length, sym, ap, ◌∙◌, subst, arith}
use Rattle.model.specs.Machine as model
use Rattle.machine.specs.declared.entry.Entry.{Entry}
use Rattle.model.proofs.Told.Runs.{told_suffices}
use Rattle.machine.proofs.Opening.{Filled, allowed, fill_more, filled_rest, filled_all, never_none}
use Rattle.machine.proofs.opens.open_core.Goals as goal
use Rattle.machine.proofs.opens.open_core.Goals.{in-Some, in_default}

pub loop-i-preserved : goal.loop-i-preserved
loop-i-preserved g c =
    let ts = g.L.Load.tasks c.args.load.now in
    let n = c.count-count.result in
    let i = c.loop-i.i in
    let within : i < length ts = omega arith in
    let low : i < 32 = omega arith in
    elim c.match-copy_task.branch [
      | in-Some w ↦ subst (λ (es : List Entry). Filled ts n es (i + 1)) (sym w.entry-items-is)
          (fill_more ts n c.loop-i.entry-items i w.at_rest.result w.in-Some.task low (omega arith) within w.at_rest.ensures.rest w.at_rest.ensures.task w.in-Some.ensures c.loop-i.invariant)
      | in_default w ↦ absurd (never_none ts i low within w.in_default.ensures)
    ]

pub resting-requires-clause-rest : goal.resting-requires-clause-rest
resting-requires-clause-rest g c =
    let ts = g.L.Load.tasks c.args.load.now in
    let n = c.count-count.result in
    filled_rest ts c.loop-i.entry-items _ n (subst (λ (i : ℕ). Filled ts n c.loop-i.entry-items i) (omega arith) c.loop-i.invariant)

pub returns : goal.returns
returns g c =
    let ts = g.L.Load.tasks c.args.load.now in
    let t = c.resting.ensures in
    let n = c.count-count.result in
    let all : Filled ts n c.loop-i.entry-items n = subst (λ (i : ℕ). Filled ts n c.loop-i.entry-items i) (omega arith) c.loop-i.invariant in
    let tasks = t.tasks ∙ filled_all ts c.loop-i.entry-items _ n (omega arith) all in
    record {
      allowed = allowed ts c.args.start (omega arith) (omega arith);
      tasks = tasks;
      state = t.state ∙ ap (λ ks. model.opened ks c.args.start) tasks;
      suffices = told_suffices ts (g.L.Load.lawful c.args.load.now);
    }
