-- The bytes that digits spell, one by one.
use Rattle.std.proofs.Common.{◌≡◌, ℕ, zero, suc, ◌+◌, ◌*◌, ◌/◌, ◌%◌, ◌<◌, true, List, [], ◌∷◌, length, get_or, refl, add-one, arith}
use Rattle.std.proofs.lemmas.Bool.Decides.{nat_tests}
use Rattle.frames.specs.Hex.{worth, all_digits, spells, bytes}

pub length_bytes : (text : List ℕ) → length (bytes text) ≡ length text / 2
length_bytes [] = refl
length_bytes (h ∷ []) = refl
length_bytes (h ∷ l ∷ text) = let e = length_bytes text in omega arith

byte_from : (text : List ℕ) (k j : ℕ) → j ≡ 2 * k → suc j < length text → get_or (bytes text) k 0 ≡ 16 * worth (get_or text j 0) + worth (get_or text (suc j) 0)
byte_from [] k j e h = absurd (omega arith)
byte_from (a ∷ []) k j e h = absurd (omega arith)
byte_from (a ∷ b ∷ text) zero zero e h = refl
byte_from (a ∷ b ∷ text) zero (suc j) e h = absurd (omega arith)
byte_from (a ∷ b ∷ text) (suc k) zero e h = absurd (omega arith)
byte_from (a ∷ b ∷ text) (suc k) (suc zero) e h = absurd (omega arith)
byte_from (a ∷ b ∷ text) (suc k) (suc (suc j)) e h = byte_from text k j (omega arith) (omega arith)

pub byte_is : (text : List ℕ) (k : ℕ) → k < length text / 2 → get_or (bytes text) k 0 ≡ 16 * worth (get_or text (2 * k) 0) + worth (get_or text (2 * k + 1) 0)
byte_is text k h = rw (add-one (2 * k)) (byte_from text k (2 * k) refl (omega arith))

pub digit_small : (text : List ℕ) (i : ℕ) → all_digits text ≡ true → i < length text → worth (get_or text i 0) < 16
digit_small [] i a h = absurd (omega arith)
digit_small (b ∷ text) zero a h = grind (arith, nat_tests)
digit_small (b ∷ text) (suc i) a h = digit_small text i (grind (arith, nat_tests)) (omega arith)

pub spells_digits : (text : List ℕ) → spells text ≡ true → all_digits text ≡ true
unfolding spells
spells_digits text s = grind (arith, nat_tests)

pub spells_even : (text : List ℕ) → spells text ≡ true → length text % 2 ≡ 0
unfolding spells
spells_even text s = grind (arith, nat_tests)
