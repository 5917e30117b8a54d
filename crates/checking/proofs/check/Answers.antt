use Rattle.std.proofs.Common.{◌≡◌, ◌+◌, ◌-◌, ◌*◌, ◌<◌, ◌≤◌, length, Some, None, unwrap_or, sym, refl, ap, ◌∙◌, arith}
use Rattle.model.specs.Asked.{found, demand_told}
use Rattle.model.specs.Demand.{demand_of_all}
use Rattle.model.specs.Verdict.{first_over, by_length}
use Rattle.model.proofs.Asked.Sums.{told_sum_none, told_sum_more, told_high, told_sum_all}
use Rattle.model.proofs.Promise.{agreed}
use Rattle.model.proofs.Round.Told.{told_range}
use Rattle.model.proofs.Verdict.Means.{verdict_many, verdict_told}
use Rattle.model.proofs.Verdict.Walk.{over_here, over_next, over_none}
use Rattle.checking.proofs.check.Goals as goal
use Rattle.checking.proofs.check.Goals.{then-length-round, else-length-round+else-loop-task-test+then-demand-length}

pub returns-then-count-gt32 : goal.returns-then-count-gt32
returns-then-count-gt32 g c =
    let ks = g.L.Load.tasks c.args.load.now in
    let e = sym (verdict_many ks (omega arith)) in
    record { answer = e; promise = agreed ks (g.L.Load.lawful c.args.load.now) _ e }

pub returns-in_default : goal.returns-in_default
returns-in_default g c =
    let ks = g.L.Load.tasks c.args.load.now in
    let e = sym (verdict_told ks None (omega arith) c.in_default.ensures) in
    record { answer = e; promise = agreed ks (g.L.Load.lawful c.args.load.now) _ e }

pub lengths-init : goal.lengths-init
lengths-init g c =
    let r = told_range (g.L.Load.tasks c.args.load.now) c.in-Some.round (g.L.Load.lawful c.args.load.now) c.in-Some.ensures in
    (omega arith, omega (arith, r.0), refl)

pub loop-task-init : goal.loop-task-init
loop-task-init g c = (sym (told_sum_none (g.L.Load.tasks c.args.load.now) _), omega arith)

-- one task more
pub loop-task-preserved : goal.loop-task-preserved
loop-task-preserved g c =
    let ks = g.L.Load.tasks c.args.load.now in
    let task = c.loop-task.task in
    let r = told_range ks c.in-Some.round (g.L.Load.lawful c.args.load.now) c.in-Some.ensures in
    let is : c.unwrap_or-demand.result ≡ unwrap_or (demand_told (found ks task) c.lengths.length) 0 = c.unwrap_or-demand.ensures ∙ ap (λ o. unwrap_or o 0) c.demand.ensures in
    let near : c.lengths.length ≤ 1000000 = omega (arith, r.1) in
    let here : task < length ks = omega arith in
    let low : task < 32 = omega arith in (
      ap (λ n. c.loop-task.demand + n) is ∙ told_sum_more ks task c.lengths.length c.loop-task.demand near here low c.loop-task.invariant.0,
      omega (arith, is, told_high (found ks task) c.lengths.length),
    )

-- one length more
pub lengths-preserved : goal.lengths-preserved
lengths-preserved g c =
    let ks = g.L.Load.tasks c.args.load.now in
    let t = c.lengths.length in
    let r = told_range ks c.in-Some.round (g.L.Load.lawful c.args.load.now) c.in-Some.ensures in
    let all : length ks ≤ c.loop-task.task = omega arith in
    let s = told_sum_all ks c.loop-task.task t c.loop-task.demand all c.loop-task.invariant.0 in
    let passes : demand_of_all ks t ≤ t = omega (arith, s, r.1) in
    (omega arith, omega arith, sym (over_next ks (2 * c.in-Some.round) t c.if-length-round.false passes) ∙ c.lengths.invariant.2)

pub returns : goal.returns
returns g c =
    let ks = g.L.Load.tasks c.args.load.now in
    let t = c.lengths.length in
    let end = 2 * c.in-Some.round in
    let r = told_range ks c.in-Some.round (g.L.Load.lawful c.args.load.now) c.in-Some.ensures in
    let first : c.if-length-round.exceeded ≡ first_over ks (2 * c.in-Some.round - 1) 1 = elim c.if-length-round.branch [
      | then-length-round w ↦ w.exceeded-is ∙ sym (over_none ks end t w.if-length-round.true) ∙ c.lengths.invariant.2
      | else-length-round+else-loop-task-test+then-demand-length w ↦
          let all : length ks ≤ w.loop-task.task = omega arith in
          let s = told_sum_all ks w.loop-task.task t w.loop-task.demand all w.loop-task.invariant.0 in
          let over : t < demand_of_all ks t = omega (arith, s, r.1, w.if-demand-length.true) in
          w.exceeded-is ∙ sym (over_here ks end t w.if-length-round.false over) ∙ c.lengths.invariant.2
    ] in
    let e = c.answer.ensures ∙ ap by_length first ∙ sym (verdict_told ks (Some c.in-Some.round) (omega arith) c.in-Some.ensures) in
    record { answer = e; promise = agreed ks (g.L.Load.lawful c.args.load.now) _ e }
