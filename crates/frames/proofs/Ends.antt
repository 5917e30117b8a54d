-- Where lines and texts end.
use Rattle.std.proofs.Common.{◌≡◌, ℕ, Bool, cond, zero, suc, ◌-◌, ◌<◌, ◌≤◌, true, false, eqb, eqb-true, List, [], ◌∷◌, ◌++◌, length, slice_get, get_or, Some, None, Option, MatchOption, option_copied, Bor, Ok, sym, refl, ap, subst, ◌∙◌, arith}
use Rattle.std.specs.Bool.{MatchBool}
use Rattle.std.specs.List.{slice_split, onto_first, IsFirstMatchOrLen}
use Rattle.std.proofs.lemmas.List.Splits.{slice_split_none, slice_split_at}
use Rattle.std.proofs.lemmas.Option.{slice_get-get_or, get_or_from_slice_get, slice_get_within}
use Rattle.std.proofs.lemmas.List.{length-append, get_or_append_left}
use Rattle.std.proofs.lemmas.Bool.Decides.{nat_tests}
use Rattle.frames.specs.Texts.{lines, longer, ended, text_test}

ended_from : (text : List ℕ) (k : ℕ) → suc k ≡ length text → ended text ≡ eqb (get_or text k 0) 10
ended_from [] k e = absurd (omega arith)
ended_from (b ∷ []) zero e = refl
ended_from (b ∷ []) (suc k) e = absurd (omega arith)
ended_from (b ∷ c ∷ text) zero e = absurd (omega arith)
ended_from (b ∷ c ∷ text) (suc k) e = ended_from (c ∷ text) k (omega arith)

-- a text is ended where its last byte, if there is one, is the end of a line
pub ended_last : (text : List ℕ) (last : Option (Bor ℕ)) → option_copied last ≡ slice_get text (length text - 1) → MatchOption last (ended text ≡ true) (λ b. ended text ≡ eqb b.now 10)
ended_last [] None e = refl
ended_last (a ∷ text) None e = let s = slice_get-get_or (a ∷ text) (length (a ∷ text) - 1) 0 (omega arith) in cc
ended_last text (Some b) e =
    let h = slice_get_within text (length text - 1) b.now (sym e) in
    ended_from text (length text - 1) (omega arith)
    ∙ ap (λ (x : ℕ). eqb x 10) (get_or_from_slice_get text (length text - 1) b.now 0 (sym e))

ended_push : (body : List ℕ) (b : ℕ) → ended (body ++ b ∷ []) ≡ eqb b 10
ended_push [] b = refl
ended_push (a ∷ []) b = refl
ended_push (a ∷ c ∷ body) b = ended_push (c ∷ body) b

pub ended_parts : (text body : List ℕ) (b : ℕ) → ended text ≡ true → text ≡ body ++ b ∷ [] → text ≡ body ++ 10 ∷ []
ended_parts text body b e p = p ∙ ap (λ (b : ℕ). body ++ b ∷ []) (eqb-true b 10 (sym (ended_push body b) ∙ ap ended (sym p) ∙ e))

pub no_lines : (text : List ℕ) → length text ≡ 0 → [] ≡ lines text
no_lines [] e = refl
no_lines (b ∷ text) e = absurd (omega arith)

module _ (text : List ℕ) where
  pub text_good : length text ≤ 16384 → ended text ≡ true → Ok tt ≡ text_test text
  unfolding text_test
  text_good h e = grind (arith, nat_tests)

  pub tested_short : (u : Unit {0}) → text_test text ≡ Ok u → length text ≤ 16384
  unfolding text_test
  tested_short u e = grind (arith, nat_tests)

  pub tested_ended : (u : Unit {0}) → text_test text ≡ Ok u → ended text ≡ true
  unfolding text_test
  tested_ended u e = grind (arith, nat_tests)

abbrev pub is_end : ℕ → Bool
is_end b = eqb b 10

longer_first : (b : ℕ) (ls : List (List ℕ)) → longer b ls ≡ onto_first b ls
longer_first b [] = refl
longer_first b (l ∷ ls) = refl

-- the lines of an ended text are the parts of what stands before its last byte
pub lines_parts : (text : List ℕ) → lines (text ++ 10 ∷ []) ≡ slice_split is_end text
lines_parts [] = refl
lines_parts (b ∷ text) = (λ i. cond (is_end b) ([] ∷ lines_parts text i) (longer b (lines_parts text i))) ∙ ap (cond (is_end b) ([] ∷ slice_split is_end text)) (longer_first b (slice_split is_end text))

-- the lines that a split has left
abbrev pub left : Bool → List ℕ → List (List ℕ)
left true rest = []
left false rest = slice_split is_end rest

pub left_none : (done : Bool) (rest : List ℕ) → done ≡ true → left done rest ≡ []
left_none done rest e = rw e refl

seam : (line : List ℕ) (y : ℕ) (rest : List ℕ) → get_or (line ++ (y ∷ rest)) (length line) y ≡ y
seam [] y rest = refl
seam (b ∷ line) y rest = seam line y rest

pub left_more : (done done' : Bool) (text line rest : List ℕ) → done ≡ false → MatchBool done' (text ≡ line) ((y : ℕ) × (text ≡ line ++ (y ∷ rest))) → IsFirstMatchOrLen is_end text (length line) → left done text ≡ line ∷ left done' rest
left_more true done' text line rest n e h = cc
left_more false true text line rest n e h = ap (slice_split is_end) e ∙ slice_split_none is_end line (λ k d l. subst (λ (ys : List ℕ). is_end (get_or ys k d) ≡ false) e (h.0 k d (omega arith) l))
left_more false false text line rest n e h =
    let front : (k d : ℕ) → k < length line → is_end (get_or line k d) ≡ false = λ k d l. ap is_end (sym (ap (λ (v : List ℕ). get_or v k d) e.1 ∙ get_or_append_left line (e.0 ∷ rest) d k l)) ∙ h.0 k d (omega arith) l in
    let hit : is_end e.0 ≡ true = ap is_end (sym (ap (λ (v : List ℕ). get_or v (length line) e.0) e.1 ∙ seam line e.0 rest)) ∙ h.1 (omega (arith, ap length e.1, length-append line (e.0 ∷ rest))) e.0 in
    ap (slice_split is_end) e.1 ∙ slice_split_at is_end line e.0 rest front hit

pub lines_short : (text : List ℕ) → length (lines text) ≤ length text
lines_short [] = omega arith
lines_short (b ∷ text) = go (is_end b) (lines text) (lines_short text)
  where
    go : (t : Bool) (ls : List (List ℕ)) → length ls ≤ length text → length (cond t ([] ∷ ls) (longer b ls)) ≤ suc (length text)
    go true ls h = omega arith
    go false [] h = omega arith
    go false (l ∷ ls) h = omega arith
