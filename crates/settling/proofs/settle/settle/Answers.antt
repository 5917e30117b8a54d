use Rattle.std.proofs.Common.{refl}
use Rattle.frames.proofs.Accepted.{accepted_texts}
use Rattle.settling.proofs.Outcomes.{of_text}
use Rattle.settling.proofs.Tables.{taken}
use Rattle.settling.proofs.settle.settle.Goals as goal

pub invariant_of-rows : goal.invariant_of-rows
invariant_of-rows c =
    let e = c.in-Ok.ensures in
    let n = c.in-Ok.counts in
    let t = taken c.args.text.now _ _ _ _ _ _ refl refl refl e.law n e.read n.plains n.opens n.boundeds refl refl refl in
    record { plain_table = t.plain_table; bounded_table = t.bounded_table }

pub returns-in-Ok-clause-law : goal.returns-in-Ok-clause-law
returns-in-Ok-clause-law c = of_text accepted_texts c.args.text.now

pub returns-in-Err-clause-law : goal.returns-in-Err-clause-law
returns-in-Err-clause-law c = of_text accepted_texts c.args.text.now
