use Rattle.std.proofs.Common.{map, take, None, sym, ap, ◌∙◌, arith}
use Rattle.machine.specs.Views.{task_of, progress_of}
use Rattle.model.specs.Machine as model
use Rattle.machine.proofs.Rests.{rest_asleep}
use Rattle.machine.proofs.clock.Core.resting.Goals as goal

pub returns-clause-state : goal.returns-clause-state
returns-clause-state c =
    let n = c.resting.ensures.count in
    let es = c.resting.ensures.entries in
    (λ k. record { now = c.args.start; miss = None; progress = map progress_of (take (n k) (es k)) })
    ∙ ap (λ g. record { now = c.args.start; miss = None; progress = g }) (rest_asleep c.args.count c.args.entries (omega arith) c.requires.rest ∙ (let m = sym n in let fs = sym es in λ k. model.asleep (map task_of (take (m k) (fs k)))))
