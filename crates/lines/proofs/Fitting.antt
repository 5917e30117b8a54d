-- Rows that keep the rules have numbers that fit their fields.
use Rattle.std.proofs.Common.{◌≡◌, ℕ, ◌≤◌, true, List, take, Some, None, Option, arith}
use Rattle.std.proofs.lemmas.Bool.Decides.{nat_tests}
use Rattle.model.proofs.Rules.Keeps.{plain_keeps, settled_keeps, bounded_keeps}
use Rattle.rows.specs.declared.bare.PlainRow.{PlainRow}
use Rattle.rows.specs.declared.bare.OpenRow.{OpenRow}
use Rattle.rows.specs.declared.bare.SettledRow.{SettledRow}
use Rattle.rows.specs.declared.bare.BoundedRow.{BoundedRow}
use Rattle.rows.specs.Bare.{plain_breaks, open_breaks, bounded_breaks, settled_breaks}
use Rattle.frames.specs.Hex.{line}
use Rattle.frames.specs.Frames.{plain_numbers, open_numbers, bounded_numbers, settled_numbers}
use Rattle.frames.specs.Frames.{framed_row}
use Rattle.lines.specs.Lines.{all_short, row_text}
use Rattle.frames.proofs.Readback.{open_keeps}

fits : (tag count name : ℕ) (numbers : List ℕ) → count ≤ 6 → all_short numbers ≡ true → row_text tag count name numbers ≡ Some (line (framed_row tag name (take count numbers)))
fits tag count name numbers h s = let x : Option (List ℕ) = Some (line (framed_row tag name (take count numbers))) in grind (arith, nat_tests)

pub plain_written : (r : PlainRow) → plain_breaks r ≡ None → row_text 1 3 r.name (plain_numbers r) ≡ Some (line (framed_row 1 r.name (take 3 (plain_numbers r))))
plain_written r e =
    let k = plain_keeps r.spacing r.due r.cost e in
    let s : all_short (plain_numbers r) ≡ true = grind (arith, nat_tests) in
    fits 1 3 r.name (plain_numbers r) (omega arith) s

pub open_written : (r : OpenRow) → open_breaks r ≡ None → row_text 2 4 r.name (open_numbers r) ≡ Some (line (framed_row 2 r.name (take 4 (open_numbers r))))
open_written r e =
    let k = open_keeps r e in
    let s : all_short (open_numbers r) ≡ true = grind (arith, nat_tests) in
    fits 2 4 r.name (open_numbers r) (omega arith) s

pub bounded_written : (r : BoundedRow) → bounded_breaks r ≡ None → row_text 3 6 r.name (bounded_numbers r) ≡ Some (line (framed_row 3 r.name (take 6 (bounded_numbers r))))
bounded_written r e =
    let k = bounded_keeps r.spacing r.first r.second r.total r.wait r.split e in
    let s : all_short (bounded_numbers r) ≡ true = grind (arith, nat_tests) in
    fits 3 6 r.name (bounded_numbers r) (omega arith) s

pub settled_written : (r : SettledRow) → settled_breaks r ≡ None → row_text 18 5 r.name (settled_numbers r) ≡ Some (line (framed_row 18 r.name (take 5 (settled_numbers r))))
settled_written r e =
    let k = settled_keeps r.spacing r.first r.wait r.second r.split e in
    let s : all_short (settled_numbers r) ≡ true = grind (arith, nat_tests) in
    fits 18 5 r.name (settled_numbers r) (omega arith) s
