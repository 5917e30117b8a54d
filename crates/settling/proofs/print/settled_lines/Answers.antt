use Rattle.std.proofs.Common.{◌≡◌, ℕ, List, ◌++◌, None, vec_items, sym, ap, ◌∙◌}
use Rattle.std.proofs.ByRecursion.{All-get_or}
use Rattle.rows.specs.Bare.{settled_breaks}
use Rattle.lines.specs.Lines.{wrote}
use Rattle.settling.proofs.Printed.{line_shown, one_more}
use Rattle.settling.proofs.print.settled_lines.Goals as goal

pub loop-row-preserved : goal.loop-row-preserved
loop-row-preserved c =
    let l = c.loop-row in
    let keeps = All-get_or (λ r. settled_breaks r ≡ None) c.args.rows.now l.row-index _ c.loop-row-test.true c.requires in
    let shown = line_shown _ c.unwrap-line.result keeps (ap wrote (sym c.unwrap-line.ensures) ∙ c.row_line.ensures) in
    one_more c.args.rows.now l.row-index _ _ _ c.loop-row-test.true l.invariant
    (c.in_ok-extend_from_slice.ensures.items ∙ ap (λ (more : List ℕ). vec_items l.text ++ more) (c.as_slice.ensures ∙ shown))
