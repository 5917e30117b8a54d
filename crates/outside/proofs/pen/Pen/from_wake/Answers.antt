use Rattle.std.proofs.Common.{◌≡◌, ◌+◌, ◌*◌, ◌/◌, ◌≤◌, min, ap, ◌∙◌, arith}
use Rattle.std.proofs.lemmas.Nat.{mul-le, div_below}
use Rattle.model.specs.Demand.{from_wake}
use Rattle.outside.specs.Pen.{stroke_task}
use Rattle.outside.proofs.pen.Pen.from_wake.Goals as goal

pub returns : goal.returns
unfolding from_wake
returns c =
    let s = c.args.self.now.stroke in
    let t = c.value-length.result in
    let total : 3 * s ≡ s + (s + s) = omega arith in
    let part = c.min.ensures ∙ ap (λ n. min n c.caps_by.result) total ∙ ap (min (s + (s + s))) c.caps_by.ensures.value in
    let few : t / 60 ≤ 16667 = omega (arith, div_below t 60 16668 (omega arith) (omega arith)) in
    record {
      value = ap (λ n. t / 60 * n + c.min.result) total ∙ ap (λ n. t / 60 * (s + (s + s)) + n) part ∙ ap (from_wake (stroke_task s)) c.value-length.ensures;
      top = omega (arith, c.min.ensures, mul-le (t / 60) (3 * s) 16667 15 few (omega arith));
    }
