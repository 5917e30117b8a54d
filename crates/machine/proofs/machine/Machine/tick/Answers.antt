use Rattle.std.proofs.Common.{sym, ap, subst}
use Rattle.model.specs.Laws.{TickSays}
use Rattle.model.specs.Machine as model
use Rattle.model.proofs.Tick.{tick_is_earliest_deadline_first}
use Rattle.machine.specs.Calls.{state_of, tasks_of}
use Rattle.machine.proofs.machine.Machine.tick.Goals as goal

pub returns-clause-earliest : goal.returns-clause-earliest
returns-clause-earliest g c =
    let s = c.args.self.now.core in
    subst (TickSays (state_of s)) (sym (ap (λ (st : model.Step). st.answer) c.tick.ensures.did)) (tick_is_earliest_deadline_first (tasks_of s) (state_of s))
