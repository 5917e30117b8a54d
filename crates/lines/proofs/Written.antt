-- Lines written byte by byte.
use Rattle.std.proofs.Common.{◌≡◌, ℕ, zero, suc, ◌+◌, ◌*◌, ◌/◌, ◌%◌, ◌<◌, ◌≤◌, Bool, true, false, cond, ◌&&◌, leb, List, [], ◌∷◌, ◌++◌, length, get_or, take, drop, set, Some, None, Option, sym, refl, ap, ◌∙◌, arith, le-leb}
use Rattle.std.proofs.lemmas.List.{append_assoc, take_more_set, take_more, length-set, at_drop_more}
use Rattle.std.proofs.lemmas.Bool.Decides.{nat_tests}
use Rattle.frames.specs.Hex.{digit, spelled, line}
use Rattle.frames.specs.Frames.{in_bytes, framed_row}
use Rattle.lines.specs.Lines.{all_short, row_text}

spelled_push : (bs : List ℕ) (b : ℕ) → spelled (bs ++ b ∷ []) ≡ spelled bs ++ digit (b / 16) ∷ digit (b % 16) ∷ []
spelled_push [] b = refl
spelled_push (a ∷ bs) b = ap (λ rest. digit (a / 16) ∷ digit (a % 16) ∷ rest) (spelled_push bs b)

in_bytes_push : (ns : List ℕ) (n : ℕ) → in_bytes (ns ++ n ∷ []) ≡ in_bytes ns ++ (n / 256 % 256) ∷ (n % 256) ∷ []
in_bytes_push [] n = refl
in_bytes_push (m ∷ ns) n = ap (λ rest. (m / 256 % 256) ∷ (m % 256) ∷ rest) (in_bytes_push ns n)

-- two places more
take_two : (xs : List ℕ) (m n m' : ℕ) (a b : ℕ) → n < length xs → n ≡ m + 1 → m' ≡ n + 1 → take m' (set (set xs m a) n b) ≡ take m xs ++ a ∷ b ∷ []
take_two xs m n m' a b h d e =
    let k : n < length (set xs m a) = simp length-set h in
    ap (λ l. take l (set (set xs m a) n b)) e
    ∙ take_more_set (set xs m a) n b k
    ∙ ap (λ (l : ℕ). take l (set xs m a) ++ b ∷ []) d
    ∙ ap (λ ys. ys ++ b ∷ []) (take_more_set xs m a (omega arith))
    ∙ append_assoc (take m xs) (a ∷ []) (b ∷ [])

pub line_more : (xs bytes : List ℕ) (i a b : ℕ) → 2 * i + 1 < length xs → i < length bytes → take (2 * i) xs ≡ spelled (take i bytes) → a ≡ digit (get_or bytes i 0 / 16) → b ≡ digit (get_or bytes i 0 % 16) → take (2 * (i + 1)) (set (set xs (2 * i) a) (2 * i + 1) b) ≡ spelled (take (i + 1) bytes)
line_more xs bytes i a b h l e p q =
    take_two xs (2 * i) (2 * i + 1) (2 * (i + 1)) a b h refl (omega arith)
    ∙ (λ j. e j ++ p j ∷ q j ∷ [])
    ∙ sym (spelled_push (take i bytes) (get_or bytes i 0))
    ∙ ap spelled (sym (take_more bytes i 0 l))

pub short_more : (ns : List ℕ) (i : ℕ) → i < length ns → get_or ns i 0 ≤ 65535 → all_short (drop (i + 1) ns) ≡ all_short (drop i ns)
short_more ns i h d =
    let e : all_short (drop i ns) ≡ leb (get_or ns i 0) 65535 && all_short (drop (i + 1) ns) = at_drop_more all_short ns i 0 h in
    grind (arith, nat_tests)

pub frame_more : (frame fields : List ℕ) (tag name k a b : ℕ) → 2 * k + 3 < length frame → k < length fields → take (2 * k + 2) frame ≡ framed_row tag name (take k fields) → a ≡ get_or fields k 0 / 256 % 256 → b ≡ get_or fields k 0 % 256 → take (2 * (k + 1) + 2) (set (set frame (2 * k + 2) a) (2 * k + 3) b) ≡ framed_row tag name (take (k + 1) fields)
frame_more frame fields tag name k a b h l e p q =
    take_two frame (2 * k + 2) (2 * k + 3) (2 * (k + 1) + 2) a b h (omega arith) (omega arith)
    ∙ (λ j. e j ++ p j ∷ q j ∷ [])
    ∙ ap (λ (ns : List ℕ). tag ∷ name ∷ ns) (sym (in_bytes_push (take k fields) (get_or fields k 0)) ∙ ap in_bytes (sym (take_more fields k 0 l)))

take_in_bytes : (k n : ℕ) (ns : List ℕ) → n ≡ 2 * k → take n (in_bytes ns) ≡ in_bytes (take k ns)
take_in_bytes zero zero ns e = refl
take_in_bytes zero (suc n) ns e = absurd (omega arith)
take_in_bytes (suc k) zero ns e = absurd (omega arith)
take_in_bytes (suc k) (suc zero) ns e = absurd (omega arith)
take_in_bytes (suc k) (suc (suc n)) [] e = refl
take_in_bytes (suc k) (suc (suc n)) (m ∷ ns) e = ap (λ rest. (m / 256 % 256) ∷ (m % 256) ∷ rest) (take_in_bytes k n ns (omega arith))

-- the bytes of a frame of fewer fields
frame_front : (tag name count n : ℕ) (ns : List ℕ) → n ≡ 2 + 2 * count → take n (framed_row tag name ns) ≡ framed_row tag name (take count ns)
frame_front tag name count zero ns e = absurd (omega arith)
frame_front tag name count (suc zero) ns e = absurd (omega arith)
frame_front tag name count (suc (suc n)) ns e = ap (λ (rest : List ℕ). tag ∷ name ∷ rest) (take_in_bytes count n ns (omega arith))

abbrev some_frame : List ℕ → Option (List ℕ)
some_frame x = Some x

some_same : (x y : List ℕ) → some_frame x ≡ Some y → x ≡ y
some_same x y e = cc

told_frame : (b : Bool) (x y : List ℕ) → cond b (some_frame x) None ≡ Some y → (b ≡ true) × (x ≡ y)
told_frame true x y e = (refl, some_same x y e)
told_frame false x y e = (cc, cc)

pub row_told : (tag count name n : ℕ) (ns frame x : List ℕ) → count ≤ 6 → cond (all_short ns) (some_frame (framed_row tag name ns)) None ≡ Some frame → x ≡ line (take n frame) → n ≡ 2 + 2 * count → Some x ≡ row_text tag count name ns
row_told tag count name n ns frame x c f e p =
    let t = told_frame (all_short ns) (framed_row tag name ns) frame f in
    let b : leb count 6 && all_short ns ≡ true = ap (λ (b : Bool). b && all_short ns) (le-leb count 6 c) ∙ t.0 in
    ap some_frame (e ∙ ap (λ (l : List ℕ). line (take n l)) (sym t.1) ∙ ap line (frame_front tag name count n ns p))
    ∙ ap (λ (b : Bool). cond b (some_frame (line (framed_row tag name (take count ns)))) None) (sym b)
