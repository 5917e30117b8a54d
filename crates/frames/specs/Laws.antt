-- What the reader promises of whole lines and texts.
use Rattle.std.specs.Prelude.{◌≡◌, ℕ, ◌<◌, ◌≤◌, min, ◌↔◌, List, length, take, None, Ok}
use Rattle.std.specs.List.{flat_map, AllByRecursion}
use Rattle.rows.specs.Bare.{plain_breaks, open_breaks, bounded_breaks}
use Rattle.frames.specs.declared.frame.TextRow.{TextRow}
use Rattle.frames.specs.declared.frame.TextRow.TheVariants.{Plain, Open, Bounded}
use Rattle.frames.specs.declared.text.Counts.{Counts}
use Rattle.frames.specs.Hex.{spelled, line}
use Rattle.frames.specs.Frames.{plain_numbers, open_numbers, bounded_numbers, framed_row}
use Rattle.frames.specs.Rows.{row_of}
use Rattle.frames.specs.Texts.{plain_rows, open_rows, bounded_rows, Outcome, text_read}

-- the frame that a row is written as
abbrev pub frame_of : TextRow → List ℕ
frame_of (Plain r) = framed_row 1 r.name (take 3 (plain_numbers r))
frame_of (Open r) = framed_row 2 r.name (take 4 (open_numbers r))
frame_of (Bounded r) = framed_row 3 r.name (take 6 (bounded_numbers r))

-- a row keeps the rules of its kind, and its name is a byte
abbrev pub Lawful : TextRow → Type 0
Lawful (Plain r) = (r.name < 256) × (plain_breaks r ≡ None)
Lawful (Open r) = (r.name < 256) × (open_breaks r ≡ None)
Lawful (Bounded r) = (r.name < 256) × (bounded_breaks r ≡ None)

-- A line reads as a row exactly where the row keeps the rules and the line is the one that the row is written as.
abbrev pub WrittenRowsReadBack : Type 0
WrittenRowsReadBack = (n : ℕ) (row : TextRow) (text : List ℕ) → (row_of n text ≡ Ok row) ↔ (Lawful row × (text ≡ spelled (frame_of row)))

-- rows that tables of some places can take
abbrev pub Fit : Counts → List TextRow → Type 0
Fit places rows = (length (plain_rows rows) ≤ min 32 places.plains) × (length (open_rows rows) ≤ min 32 places.opens) × (length (bounded_rows rows) ≤ min 32 places.boundeds)

abbrev pub accepted : List TextRow → Outcome
accepted rs = record { rows = rs; fault = None }

-- A text is accepted, and gives some rows, exactly where it is those rows' lines, one after the other,
-- each row keeps the rules, the tables can take them, and the text is not too long.
abbrev pub AcceptedTextsAreWrittenRows : Type 0
AcceptedTextsAreWrittenRows =
    (places : Counts) (rows : List TextRow) (text : List ℕ) →
    (text_read places text ≡ accepted rows) ↔ ((text ≡ flat_map (λ row. line (frame_of row)) rows) × AllByRecursion Lawful rows × Fit places rows × (length text ≤ 16384))
