use Rattle.std.proofs.Common.{◌≡◌, ℕ, ◌≤◌, ◌/◌, ◌%◌, List, length, get_or, ap, ◌∙◌, arith, rules}
use Rattle.std.proofs.lemmas.List.{length-set}
use Rattle.lines.proofs.Written.{frame_more, short_more}
use Rattle.lines.proofs.write.frame_of.Goals as goal

pub loop-k-preserved : goal.loop-k-preserved
loop-k-preserved c =
    let six : length c.args.fields ≡ 6 = search rules in
    let short : get_or c.args.fields c.loop-k.k 0 ≤ 65535 = grind (arith, c.try_from.ensures, c.ok.ensures.value, c.in_ok-ok.was) in
    let same : c.in_ok-ok.field-0 ≡ get_or c.args.fields c.loop-k.k 0 = grind (arith, c.try_from.ensures, c.ok.ensures.value, c.in_ok-ok.was) in (
      simp length-set c.loop-k.invariant.0,
      frame_more c.loop-k.frame c.args.fields c.args.tag c.args.name c.loop-k.k _ _ (omega (arith, c.loop-k.invariant.0)) (omega arith) c.loop-k.invariant.1
          (ap (λ (l : List ℕ). get_or l 0 0) c.to_be_bytes.ensures ∙ ap (λ (n : ℕ). n / 256 % 256) same) (ap (λ (l : List ℕ). get_or l 1 0) c.to_be_bytes.ensures ∙ ap (λ (n : ℕ). n % 256) same),
      short_more c.args.fields c.loop-k.k (omega arith) short ∙ c.loop-k.invariant.2,
    )
