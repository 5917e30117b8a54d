-- The lines of settled rows.
use Rattle.std.proofs.Common.{◌≡◌, ℕ, ◌+◌, ◌<◌, List, [], ◌++◌, length, get_or, take, Some, None, Option, sym, ap, ◌∙◌}
use Rattle.std.specs.List.{flat_map}
use Rattle.std.proofs.lemmas.List.{flat_map_more, take_more}
use Rattle.rows.specs.Bare.{settled_breaks}
use Rattle.rows.specs.declared.bare.SettledRow.{SettledRow}
use Rattle.frames.specs.Frames.{settled_numbers}
use Rattle.lines.specs.declared.line.Line.{Line}
use Rattle.lines.specs.Lines.{written, wrote, row_text}
use Rattle.lines.proofs.Fitting.{settled_written}
use Rattle.settling.specs.Settled.{settled_line}

pub line_shown : (r : SettledRow) (l : Line) → settled_breaks r ≡ None → wrote (Some l) ≡ row_text 18 5 r.name (settled_numbers r) → written l ≡ settled_line r
unfolding settled_line
line_shown r l h e = let is : ◌≡◌ {A = Option (List ℕ)} (Some (written l)) (Some (settled_line r)) = e ∙ settled_written r h in cc

pub one_more : (rows : List SettledRow) (i : ℕ) (d : SettledRow) (items after : List ℕ) → i < length rows → items ≡ flat_map settled_line (take i rows) → after ≡ items ++ settled_line (get_or rows i d) → after ≡ flat_map settled_line (take (i + 1) rows)
one_more rows i d items after h e f =
    f ∙ ap (λ (l : List ℕ). l ++ settled_line (get_or rows i d)) e
    ∙ flat_map_more settled_line [] (take i rows) (get_or rows i d)
    ∙ ap (flat_map settled_line) (sym (take_more rows i d h))
