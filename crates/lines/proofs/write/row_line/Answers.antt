use Rattle.std.proofs.Common.{sym, ◌∙◌, arith}
use Rattle.lines.specs.Lines.{row_text}
use Rattle.lines.proofs.Written.{row_told}
use Rattle.lines.proofs.write.row_line.Goals as goal

pub returns : goal.returns
returns g c =
    row_told c.TAG.result c.FIELDS.result c.name.result _ c.fields.result c.in_ok-frame.frame _
    c.if-FIELDS-gt-MOST_FIELDS.false (sym c.frame_of.ensures ∙ c.in_ok-frame.was) c.of.ensures (omega (arith, c.FIELDS.ensures, c.FIELDS-2.ensures))
    ∙ (λ i. row_text (c.TAG.ensures i) (c.FIELDS.ensures i) (c.name.ensures i) (c.fields.ensures i))
