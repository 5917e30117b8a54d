-- Hexadecimal: two digits a byte, the high digit first.
use Rattle.std.specs.Prelude.{ℕ, ◌+◌, ◌-◌, ◌*◌, ◌/◌, ◌%◌, Bool, cond, ◌&&◌, List, [], ◌∷◌, ◌++◌, length, Some, None, Option, ◌==◌, nat_le, nat_lt}
use Rattle.std.specs.List.{list_all}

-- the value of a byte as a digit, 0 to 9 (bytes 48 to 57) and A to F (bytes 65 to 70); 255 for a byte that is no digit
unfoldable pub worth : ℕ → ℕ
worth b = cond (nat_le 48 b && nat_le b 57) (b - 48) (cond (nat_le 65 b && nat_le b 70) (b - 55) 255)

-- the value of a digit; none for a byte that is no digit
abbrev pub valued : ℕ → Option ℕ
valued b = cond (nat_lt (worth b) 16) (Some (worth b)) None

-- the digit of a value below 16
abbrev pub digit : ℕ → ℕ
digit v = cond (nat_lt v 10) (48 + v) (55 + v)

abbrev pub all_digits : List ℕ → Bool
all_digits text = list_all (λ b. nat_lt (worth b) 16) text

-- some text spells bytes: every byte of it is a digit, and their count is even
unfoldable pub spells : List ℕ → Bool
spells text = all_digits text && length text % 2 == 0

-- the bytes that digits spell
abbrev pub bytes : List ℕ → List ℕ
bytes [] = []
bytes (h ∷ []) = []
bytes (h ∷ l ∷ text) = (16 * worth h + worth l) ∷ bytes text

-- the digits of some bytes
abbrev pub spelled : List ℕ → List ℕ
spelled [] = []
spelled (b ∷ bs) = digit (b / 16) ∷ digit (b % 16) ∷ spelled bs

-- the end of a line
abbrev pub end_of_line : ℕ
end_of_line = 10

-- the line of some bytes
abbrev pub line : List ℕ → List ℕ
line bs = spelled bs ++ end_of_line ∷ []
