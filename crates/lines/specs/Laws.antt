-- What the writers promise of rows.
use Rattle.std.specs.Prelude.{◌≡◌, take, Some, None}
use Rattle.rows.specs.declared.bare.PlainRow.{PlainRow}
use Rattle.rows.specs.declared.bare.OpenRow.{OpenRow}
use Rattle.rows.specs.declared.bare.SettledRow.{SettledRow}
use Rattle.rows.specs.declared.bare.BoundedRow.{BoundedRow}
use Rattle.rows.specs.Bare.{plain_breaks, open_breaks, bounded_breaks, settled_breaks}
use Rattle.frames.specs.Hex.{line}
use Rattle.frames.specs.Frames.{plain_numbers, open_numbers, bounded_numbers, settled_numbers, framed_row}
use Rattle.lines.specs.Lines.{row_text}

-- A row that keeps the rules of its kind is written, whatever its kind.
abbrev pub LawfulRowsAreWritten : Type 0
LawfulRowsAreWritten =
    ((r : PlainRow) → plain_breaks r ≡ None → row_text 1 3 r.name (plain_numbers r) ≡ Some (line (framed_row 1 r.name (take 3 (plain_numbers r)))))
    × ((r : OpenRow) → open_breaks r ≡ None → row_text 2 4 r.name (open_numbers r) ≡ Some (line (framed_row 2 r.name (take 4 (open_numbers r)))))
    × ((r : BoundedRow) → bounded_breaks r ≡ None → row_text 3 6 r.name (bounded_numbers r) ≡ Some (line (framed_row 3 r.name (take 6 (bounded_numbers r)))))
    × ((r : SettledRow) → settled_breaks r ≡ None → row_text 18 5 r.name (settled_numbers r) ≡ Some (line (framed_row 18 r.name (take 5 (settled_numbers r)))))
