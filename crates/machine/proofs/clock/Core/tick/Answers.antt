use Rattle.std.proofs.Common.{ap, ◌∙◌, arith}
use Rattle.model.specs.Machine as model
use Rattle.machine.specs.declared.entry.Entry.{Entry}
use Rattle.machine.specs.declared.entry.Event.TheVariants.{Tick}
use Rattle.machine.specs.Views.{piece_told}
use Rattle.machine.specs.Lines.{ready_pick}
use Rattle.machine.specs.Calls.{state_of, stepped}
use Rattle.machine.proofs.Wakes.{runs_is, told_at}
use Rattle.machine.proofs.Steps.{ticked, same_tasks}
use Rattle.machine.proofs.Ticks.{tick_idle, tick_ran, tick_missed}
use Rattle.machine.proofs.clock.Core.tick.Goals as goal

pub returns-in_default-clause-did : goal.returns-in_default-clause-did
returns-in_default-clause-did c =
    let s = c.args.self.now in
    ap (stepped model.idle) c.pass.ensures.state ∙ tick_idle s (runs_is s.miss c.if-is_some.ensures) (omega arith) c.in_default.ensures.least

pub returns-then-front-at-clause-did : goal.returns-then-front-at-clause-did
returns-then-front-at-clause-did c =
    let s = c.args.self.now in
    let x = ready_pick c.in-Some.front in
    let f = c.in-Some.ensures in
    let p = told_at (λ (e : Entry). piece_told e.phase) c.at_work-piece.result s.table.entries x.number _ (omega arith) c.at_work-piece.ensures in
    tick_missed s (runs_is s.miss c.if-is_some.ensures) (omega arith) x f.least f.within c.at_work-piece.result p (omega arith)

pub returns : goal.returns
returns c =
    let s = c.args.self.now in
    let x = ready_pick c.in-Some.front in
    let f = c.in-Some.ensures in
    let t = c.advance.new.self in
    let told = c.advance.ensures in
    let p = told_at (λ (e : Entry). piece_told e.phase) c.at_work-piece.result s.table.entries x.number _ (omega arith) c.at_work-piece.ensures in
    let g = ticked s x f.least f.within t told.count told.entries in
    record {
      did = ap (stepped (model.ran x.number c.at_work-piece.result)) c.pass-2.ensures.state
          ∙ ap (λ g. stepped (model.ran x.number c.at_work-piece.result) (model.later (record { now = s.now; miss = (state_of s).miss; progress = g }))) g
          ∙ tick_ran s (runs_is s.miss c.if-is_some.ensures) (omega arith) x f.least f.within c.at_work-piece.result p (omega arith);
      tasks = c.pass-2.ensures.tasks ∙ same_tasks s x f.least f.within t told.count (Tick s.now) told.entries;
    }
