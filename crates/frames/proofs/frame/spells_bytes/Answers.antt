use Rattle.std.proofs.Common.{◌≡◌, ltb, arith, rules, tests}
use Rattle.std.proofs.lemmas.Bool.Decides.{nat_tests}
use Rattle.std.proofs.lemmas.Iterator.{YieldsList-from_slice}
use Rattle.std.proofs.lemmas.Iterator.Search.{all_from_yields_List}
use Rattle.frames.specs.Hex.{worth, all_digits, spells}
use Rattle.frames.proofs.frame.spells_bytes.Goals as goal

pub returns-then-text-eq0 : goal.returns-then-text-eq0
unfolding spells
returns-then-text-eq0 c =
    let digits : c.all.result ≡ all_digits c.args.text.now = all_from_yields_List (λ b. ltb (worth b) 16) _ _ _ c.all.ensures.ran (YieldsList-from_slice c.args.text.now cc) (λ x b q k. search (rules, tests)) in
    grind (arith, nat_tests)
