-- The lines that are written.
use Rattle.std.specs.Prelude.{ℕ, ◌/◌, ◌%◌, ◌^◌, Bool, true, cond, ◌&&◌, List, [], ◌∷◌, take, Some, None, Option, nat_le}
use Rattle.lines.specs.declared.line.Line.{Line}
use Rattle.frames.specs.Hex.{line}
use Rattle.frames.specs.Frames.{framed_row}

-- the text of a line, its end included
abbrev pub written : Line → List ℕ
written l = take l.size l.text

abbrev pub wrote : Option Line → Option (List ℕ)
wrote None = None
wrote (Some l) = Some (written l)

-- the low bytes of a number, the high byte first
abbrev pub two : ℕ → List ℕ
two n = (n / 256 % 256) ∷ (n % 256) ∷ []

abbrev pub four : ℕ → List ℕ
four n = (n / 256 ^ 3 % 256) ∷ (n / 256 ^ 2 % 256) ∷ two n

abbrev pub eight : ℕ → List ℕ
eight n = (n / 256 ^ 7 % 256) ∷ (n / 256 ^ 6 % 256) ∷ (n / 256 ^ 5 % 256) ∷ (n / 256 ^ 4 % 256) ∷ four n

-- each number fits two bytes
abbrev pub all_short : List ℕ → Bool
all_short [] = true
all_short (n ∷ ns) = nat_le n 65535 && all_short ns

-- the line of a row, if its numbers fit their fields
abbrev pub row_text : ℕ → ℕ → ℕ → List ℕ → Option (List ℕ)
row_text tag count name numbers = cond (nat_le count 6 && all_short numbers) (Some (line (framed_row tag name (take count numbers)))) None

-- the line of a miss of the task of some name, if there is one and the piece fits a byte
abbrev pub miss_text : Option ℕ → ℕ → ℕ → Option (List ℕ)
miss_text None piece instant = None
miss_text (Some name) piece instant = cond (nat_le piece 255) (Some (line (0xF5 ∷ name ∷ piece ∷ eight instant))) None
