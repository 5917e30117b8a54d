-- The steps of reading one line.
use Rattle.std.proofs.Common.{◌≡◌, ℕ, ◌%◌, true, ◌≢◌, List, [], ◌∷◌, length, get_or, Ok, refl, arith}
use Rattle.std.proofs.lemmas.Bool.Decides.{nat_tests}
use Rattle.frames.specs.Hex.{spells, bytes}
use Rattle.frames.specs.Frames.{digits_test, tag_of}

pub tested_spells : (n : ℕ) (text : List ℕ) (u : Unit {0}) → digits_test n text ≡ Ok u → spells text ≡ true
unfolding digits_test
tested_spells n text u e = grind (arith, nat_tests)

pub tag_some : (n : ℕ) (text : List ℕ) → length text ≢ 0 → length text % 2 ≡ 0 → Ok (get_or (bytes text) 0 0) ≡ tag_of n (bytes text)
tag_some n [] e o = absurd (e refl)
tag_some n (h ∷ []) e o = absurd (omega arith)
tag_some n (h ∷ l ∷ text) e o = refl
