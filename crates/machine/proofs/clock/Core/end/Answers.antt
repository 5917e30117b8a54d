use Rattle.std.proofs.Common.{◌≡◌, ◌<◌, IfSome, Err, Option, sym, refl, ap, ◌∙◌, subst, arith}
use Rattle.std.specs.Option.{option_map}
use Rattle.std.proofs.lemmas.Result.{err_from_is_err_and}
use Rattle.queue.specs.declared.records.ReadyPiece.{ReadyPiece}
use Rattle.model.specs.Machine as model
use Rattle.machine.proofs.Steps.{ok_or_some, ok_or_none, end_no_front, end_other_front, end_done, ended, same_tasks}
use Rattle.machine.specs.declared.entry.Event.TheVariants.{End}
use Rattle.machine.specs.Lines.{ready_pick}
use Rattle.machine.specs.Calls.{answered, tasks_of, state_of, stepped}
use Rattle.machine.proofs.clock.Core.end.Goals as goal

pub returns-in_err-front-clause-did : goal.returns-in_err-front-clause-did
returns-in_err-front-clause-did c =
    let s = c.args.self.now in
    let known = c.in_ok-task.ensures in
    let none = ok_or_none c.front.result _ _ (sym c.ok_or.ensures.value ∙ c.in_err-front.was) in
    let r = err_from_is_err_and c.from_residual-in_err-front.result c.from_residual-in_err-front.ensures.1 in
    ap (λ r. stepped (answered r) (state_of s)) (r.1 ∙ ap Err (r.2 ∙ none.1))
    ∙ end_no_front s c.in_ok-task.field-0 known.2 known.1 (c.front.ensures.least ∙ ap (option_map ready_pick) none.0)
    ∙ ap (model.do_end (tasks_of s) (state_of s)) known.0

pub returns-then-front-task-clause-did : goal.returns-then-front-task-clause-did
returns-then-front-task-clause-did c =
    let s = c.args.self.now in
    let known = c.in_ok-task.ensures in
    let there = ok_or_some c.front.result _ _ (sym c.ok_or.ensures.value ∙ c.in_ok-front.was) in
    end_other_front s c.in_ok-task.field-0 known.2 known.1 (ready_pick c.in_ok-front.front) (c.front.ensures.least ∙ ap (option_map ready_pick) there) (λ e. omega (arith, e, known.0))
    ∙ ap (model.do_end (tasks_of s) (state_of s)) known.0

pub returns : goal.returns
returns c =
    let s = c.args.self.now in
    let x = ready_pick c.in_ok-front.front in
    let there = ok_or_some c.front.result _ _ (sym c.ok_or.ensures.value ∙ c.in_ok-front.was) in
    let least = c.front.ensures.least ∙ ap (option_map ready_pick) there in
    let within = subst (λ (r : Option ReadyPiece). IfSome r (λ d. d.task < s.table.count)) there c.front.ensures.within in
    let t = c.advance.new.self in
    let told = c.advance.ensures in
    let same : c.in_ok-front.front.task ≡ c.args.task = omega arith in
    let g = ended s x least within t told.count told.entries in
    record {
      did = ap (λ g. stepped model.done (record { now = s.now; miss = (state_of s).miss; progress = g })) g
          ∙ end_done s x.number c.in_ok-task.ensures.2 within x least refl
          ∙ ap (model.do_end (tasks_of s) (state_of s)) same;
      tasks = same_tasks s x least within t told.count (End s.now) told.entries;
    }
