-- A line reads as a row exactly where it is the line that the row is written as.
use Rattle.std.proofs.Common.{◌≡◌, ℕ, zero, suc, ◌+◌, ◌*◌, ◌/◌, ◌%◌, ◌<◌, ◌≤◌, Bool, true, false, cond, eqb, ◌↔◌, List, [], ◌∷◌, length, get_or, take, drop, Some, None, Ok, Err, Option, Result, sym, refl, ap, ◌∙◌, subst, arith, eq-eqb, eqb-true}
use Rattle.std.specs.List.{AllByRecursion}
use Rattle.std.proofs.lemmas.List.{get_or-drop}
use Rattle.std.proofs.ByRecursion.{All-get_or}
use Rattle.std.proofs.lemmas.Bool.Decides.{nat_tests}
use Rattle.model.specs.declared.refusal.Refusal.{Refusal}
use Rattle.model.specs.declared.refusal.Refusal.TheVariants.{BadDigit, UnknownTag, WrongLength}
use Rattle.model.proofs.Rules.Keeps.{plain_keeps, bounded_keeps}
use Rattle.rows.specs.declared.bare.PlainRow.{PlainRow}
use Rattle.rows.specs.declared.bare.OpenRow.{OpenRow}
use Rattle.rows.specs.declared.bare.BoundedRow.{BoundedRow}
use Rattle.rows.specs.Bare.{plain_breaks, open_breaks, bounded_breaks}
use Rattle.frames.specs.declared.fault.Fault.{Fault}
use Rattle.frames.specs.declared.fault.Layer.TheVariants.{Text, Frame}
use Rattle.frames.specs.declared.frame.TextRow.{TextRow}
use Rattle.frames.specs.declared.frame.TextRow.TheVariants.{Plain, Open, Bounded}
use Rattle.frames.specs.Hex.{worth, digit, all_digits, spells, bytes, spelled}
use Rattle.frames.specs.Frames.{fault_at, ◌then◌, fields, digits_test, tag_of, length_test, kept, body, plain_row, plain_numbers, open_row, open_numbers, bounded_row, bounded_numbers, in_bytes, framed_row}
use Rattle.frames.specs.Rows.{by_tag, row_of}
use Rattle.frames.specs.Laws.{frame_of, Lawful}
use Rattle.frames.proofs.Spelling.{spells_digits, spells_even}
use Rattle.frames.proofs.Steps.{tested_spells}

-- digits and their values
pub digit_worth : (b : ℕ) → worth b < 16 → digit (worth b) ≡ b
unfolding worth
digit_worth b h = grind (arith, nat_tests)

pub worth_digit : (v : ℕ) → v < 16 → worth (digit v) ≡ v
unfolding worth
worth_digit v h = grind (arith, nat_tests)

abbrev Byte : ℕ → Type 0
Byte b = b < 256

-- text that spells bytes is what those bytes spell
pub spelled_bytes : (text : List ℕ) → all_digits text ≡ true → length text % 2 ≡ 0 → spelled (bytes text) ≡ text
spelled_bytes [] a e = refl
spelled_bytes (h ∷ []) a e = absurd (omega arith)
spelled_bytes (h ∷ l ∷ text) a e =
    let x : worth h < 16 = grind (arith, nat_tests) in
    let y : worth l < 16 = grind (arith, nat_tests) in
    let z : all_digits text ≡ true = grind (arith, nat_tests) in
    let p : (16 * worth h + worth l) / 16 ≡ worth h = omega arith in
    let q : (16 * worth h + worth l) % 16 ≡ worth l = omega arith in
    let r = spelled_bytes text z (omega arith) in
    λ i. (ap digit p ∙ digit_worth h x) i ∷ (ap digit q ∙ digit_worth l y) i ∷ r i

pub bytes_small : (text : List ℕ) → all_digits text ≡ true → AllByRecursion Byte (bytes text)
bytes_small [] a = tt
bytes_small (h ∷ []) a = tt
bytes_small (h ∷ l ∷ text) a =
    let x : worth h < 16 = grind (arith, nat_tests) in
    let y : worth l < 16 = grind (arith, nat_tests) in
    (omega arith, bytes_small text (grind (arith, nat_tests)))

pub bytes_spelled : (bs : List ℕ) → AllByRecursion Byte bs → bytes (spelled bs) ≡ bs
bytes_spelled [] a = refl
bytes_spelled (b ∷ bs) a =
    let p = worth_digit (b / 16) (omega arith) in
    let q = worth_digit (b % 16) (omega arith) in
    let e : 16 * worth (digit (b / 16)) + worth (digit (b % 16)) ≡ b = omega arith in
    λ i. e i ∷ bytes_spelled bs a.1 i

digits_spelled : (bs : List ℕ) → AllByRecursion Byte bs → all_digits (spelled bs) ≡ true
digits_spelled [] a = refl
digits_spelled (b ∷ bs) a =
    let p = worth_digit (b / 16) (omega arith) in
    let q = worth_digit (b % 16) (omega arith) in
    let r = digits_spelled bs a.1 in
    grind (arith, nat_tests)

even_spelled : (bs : List ℕ) → length (spelled bs) % 2 ≡ 0
even_spelled [] = refl
even_spelled (b ∷ bs) = let e = even_spelled bs in omega arith

pub spells_spelled : (bs : List ℕ) → AllByRecursion Byte bs → spells (spelled bs) ≡ true
unfolding spells
spells_spelled bs a = let d = digits_spelled bs a in let e = even_spelled bs in grind (arith, nat_tests)

-- fields and their bytes
abbrev firsts : ℕ → List ℕ → List ℕ
firsts zero rest = []
firsts (suc k) rest = (256 * get_or rest 0 0 + get_or rest 1 0) ∷ firsts k (drop 2 rest)

in_bytes_firsts : (k : ℕ) (rest : List ℕ) → length rest ≡ 2 * k → AllByRecursion Byte rest → in_bytes (firsts k rest) ≡ rest
in_bytes_firsts zero [] e a = refl
in_bytes_firsts zero (x ∷ rest) e a = absurd (omega arith)
in_bytes_firsts (suc k) [] e a = absurd (omega arith)
in_bytes_firsts (suc k) (x ∷ []) e a = absurd (omega arith)
in_bytes_firsts (suc k) (h ∷ l ∷ rest) e a =
    let x : h < 256 = a.0 in
    let y : l < 256 = a.1.0 in
    let p : (256 * h + l) / 256 % 256 ≡ h = omega arith in
    let q : (256 * h + l) % 256 ≡ l = omega arith in
    λ i. p i ∷ q i ∷ in_bytes_firsts k rest (omega arith) a.1.1 i

reframed : (k : ℕ) (frame : List ℕ) → length frame ≡ 2 + 2 * k → AllByRecursion Byte frame → frame ≡ framed_row (get_or frame 0 0) (get_or frame 1 0) (firsts k (drop 2 frame))
reframed k [] e a = absurd (omega arith)
reframed k (t ∷ []) e a = absurd (omega arith)
reframed k (t ∷ n ∷ rest) e a = ap (λ (bs : List ℕ). t ∷ n ∷ bs) (sym (in_bytes_firsts k rest (omega arith) a.1.1))

bytes_in : (ns : List ℕ) → AllByRecursion Byte (in_bytes ns)
bytes_in [] = tt
bytes_in (n ∷ ns) = (omega arith, (omega arith, bytes_in ns))

plain_fields : (frame : List ℕ) → firsts 3 (drop 2 frame) ≡ take 3 (fields frame)
plain_fields frame = simp get_or-drop refl

open_fields : (frame : List ℕ) → firsts 4 (drop 2 frame) ≡ take 4 (fields frame)
open_fields frame = simp get_or-drop refl

bounded_fields : (frame : List ℕ) → firsts 6 (drop 2 frame) ≡ take 6 (fields frame)
bounded_fields frame = simp get_or-drop refl

whole : (n : ℕ) → n ≤ 65535 → 256 * (n / 256 % 256) + n % 256 ≡ n
whole n h = omega arith

-- steps that did not refuse
then_ok : {X Y : Type 0} (r : Result X Fault) (f : X → Result Y Fault) (y : Y) → r then f ≡ Ok y → (x : X) × (r ≡ Ok x) × (f x ≡ Ok y)
then_ok (Ok x) f y e = (x, refl, e)
then_ok (Err x) f y e = cc

kept_ok : {R : Type 0} (n : ℕ) (row r : R) (o : Option Refusal) → kept n row o ≡ Ok r → (o ≡ None) × (row ≡ r)
kept_ok n row r None e = (refl, cc)
kept_ok n row r (Some x) e = cc

length_ok : (n count : ℕ) (frame : List ℕ) (u : Unit {0}) → length_test n count frame ≡ Ok u → length frame ≡ 2 + 2 * count
unfolding length_test
length_ok n count frame u e = grind (arith, nat_tests)

body_ok : {R : Type 0} (count : ℕ) (row : ℕ → List ℕ → R) (breaks : R → Option Refusal) (n : ℕ) (frame : List ℕ) (r : R) → body count row breaks n frame ≡ Ok r → (length frame ≡ 2 + 2 * count) × (breaks r ≡ None) × (row (get_or frame 1 0) (fields frame) ≡ r)
unfolding body
body_ok count row breaks n frame r e =
    let t = then_ok (length_test n count frame) _ r e in
    let k = kept_ok n (row (get_or frame 1 0) (fields frame)) r _ t.2 in
    (length_ok n count frame t.0 t.1, ap breaks (sym k.1) ∙ k.0, k.1)

tag_ok : (n : ℕ) (frame : List ℕ) (t : ℕ) → tag_of n frame ≡ Ok t → get_or frame 0 0 ≡ t
tag_ok n [] t e = cc
tag_ok n (b ∷ frame) t e = cc

abbrev as_text : TextRow → Result TextRow Fault
as_text r = Ok r

same_row : (a b : TextRow) → as_text a ≡ Ok b → a ≡ b
same_row a b e = cc

-- what a frame of bytes means is what it is written as
abbrev Means : TextRow → List ℕ → Type 0
Means row frame = Lawful row × (frame ≡ frame_of row)

small_name : (frame : List ℕ) → AllByRecursion Byte frame → 1 < length frame → get_or frame 1 0 < 256
small_name frame a h = All-get_or Byte frame 1 0 h a

module _ (n : ℕ) (frame : List ℕ) (a : AllByRecursion Byte frame) where
  plain_means_frame : (r : PlainRow) → get_or frame 0 0 ≡ 1 → body 3 plain_row plain_breaks n frame ≡ Ok r → Means (Plain r) frame
  plain_means_frame r t e =
      let b = body_ok 3 plain_row plain_breaks n frame r e in
      let own : Means (Plain (plain_row (get_or frame 1 0) (fields frame))) frame = (
        (small_name frame a (omega (arith, b.0)), ap plain_breaks b.2 ∙ b.1),
        reframed 3 frame b.0 a ∙ (λ i. framed_row (t i) (get_or frame 1 0) (plain_fields frame i)),
      ) in
      subst (λ (r : PlainRow). Means (Plain r) frame) b.2 own

  open_means_frame : (r : OpenRow) → get_or frame 0 0 ≡ 2 → body 4 open_row open_breaks n frame ≡ Ok r → Means (Open r) frame
  open_means_frame r t e =
      let b = body_ok 4 open_row open_breaks n frame r e in
      let own : Means (Open (open_row (get_or frame 1 0) (fields frame))) frame = (
        (small_name frame a (omega (arith, b.0)), ap open_breaks b.2 ∙ b.1),
        reframed 4 frame b.0 a ∙ (λ i. framed_row (t i) (get_or frame 1 0) (open_fields frame i)),
      ) in
      subst (λ (r : OpenRow). Means (Open r) frame) b.2 own

  bounded_means_frame : (r : BoundedRow) → get_or frame 0 0 ≡ 3 → body 6 bounded_row bounded_breaks n frame ≡ Ok r → Means (Bounded r) frame
  bounded_means_frame r t e =
      let b = body_ok 6 bounded_row bounded_breaks n frame r e in
      let own : Means (Bounded (bounded_row (get_or frame 1 0) (fields frame))) frame = (
        (small_name frame a (omega (arith, b.0)), ap bounded_breaks b.2 ∙ b.1),
        reframed 6 frame b.0 a ∙ (λ i. framed_row (t i) (get_or frame 1 0) (bounded_fields frame i)),
      ) in
      subst (λ (r : BoundedRow). Means (Bounded r) frame) b.2 own

  abbrev X1 : Result TextRow Fault
  X1 = body 3 plain_row plain_breaks n frame then (λ x. as_text (Plain x))

  abbrev X2 : Result TextRow Fault
  X2 = body 4 open_row open_breaks n frame then (λ x. as_text (Open x))

  abbrev X3 : Result TextRow Fault
  X3 = body 6 bounded_row bounded_breaks n frame then (λ x. as_text (Bounded x))

  abbrev chosen : Bool → Bool → Bool → Result TextRow Fault
  chosen b1 b2 b3 = cond b1 X1 (cond b2 X2 (cond b3 X3 (Err (fault_at UnknownTag n Frame))))

  chosen_means : (row : TextRow) (t : ℕ) (b1 b2 b3 : Bool) → get_or frame 0 0 ≡ t → eqb t 1 ≡ b1 → eqb t 2 ≡ b2 → eqb t 3 ≡ b3 → chosen b1 b2 b3 ≡ Ok row → Means row frame
  chosen_means row t true b2 b3 s p q r e =
      let k = then_ok (body 3 plain_row plain_breaks n frame) (λ x. as_text (Plain x)) row e in
      subst (λ (row : TextRow). Means row frame) (same_row _ row k.2) (plain_means_frame k.0 (s ∙ eqb-true t 1 p) k.1)
  chosen_means row t false true b3 s p q r e =
      let k = then_ok (body 4 open_row open_breaks n frame) (λ x. as_text (Open x)) row e in
      subst (λ (row : TextRow). Means row frame) (same_row _ row k.2) (open_means_frame k.0 (s ∙ eqb-true t 2 q) k.1)
  chosen_means row t false false true s p q r e =
      let k = then_ok (body 6 bounded_row bounded_breaks n frame) (λ x. as_text (Bounded x)) row e in
      subst (λ (row : TextRow). Means row frame) (same_row _ row k.2) (bounded_means_frame k.0 (s ∙ eqb-true t 3 r) k.1)
  chosen_means row t false false false s p q r e = cc

  by_tag_means : (row : TextRow) (t : ℕ) → get_or frame 0 0 ≡ t → by_tag n frame t ≡ Ok row → Means row frame
  by_tag_means row t s e = chosen_means row t (eqb t 1) (eqb t 2) (eqb t 3) s refl refl refl e

-- a line that was read is the line of its row
pub read_written : (n : ℕ) (row : TextRow) (text : List ℕ) → row_of n text ≡ Ok row → Lawful row × (text ≡ spelled (frame_of row))
read_written n row text e =
    let d = then_ok (digits_test n text) (λ _. tag_of n (bytes text) then (λ t. by_tag n (bytes text) t)) row e in
    let s = tested_spells n text d.0 d.1 in
    let t = then_ok (tag_of n (bytes text)) (λ t. by_tag n (bytes text) t) row d.2 in
    let m = by_tag_means n (bytes text) (bytes_small text (spells_digits text s)) row t.0 (tag_ok n (bytes text) t.0 t.1) t.2 in
    (m.0, sym (spelled_bytes text (spells_digits text s) (spells_even text s)) ∙ ap spelled m.1)

-- the other way: a row that keeps the rules has numbers that fit their fields
plain_again : (r : PlainRow) → plain_breaks r ≡ None → plain_row r.name (fields (frame_of (Plain r))) ≡ r
plain_again r e =
    let k = plain_keeps r.spacing r.due r.cost e in
    λ i. record { name = r.name; spacing = whole r.spacing (omega arith) i; due = whole r.due (omega arith) i; cost = whole r.cost (omega arith) i }

pub open_keeps : (r : OpenRow) → open_breaks r ≡ None → (r.spacing ≤ 10000) × (r.first + r.wait + r.second ≤ r.spacing)
open_keeps r e = grind (arith, nat_tests)

open_again : (r : OpenRow) → open_breaks r ≡ None → open_row r.name (fields (frame_of (Open r))) ≡ r
open_again r e =
    let k = open_keeps r e in
    λ i. record { name = r.name; spacing = whole r.spacing (omega arith) i; first = whole r.first (omega arith) i; wait = whole r.wait (omega arith) i; second = whole r.second (omega arith) i }

bounded_again : (r : BoundedRow) → bounded_breaks r ≡ None → bounded_row r.name (fields (frame_of (Bounded r))) ≡ r
bounded_again r e =
    let k = bounded_keeps r.spacing r.first r.second r.total r.wait r.split e in
    λ i. record { name = r.name; spacing = whole r.spacing (omega arith) i; first = whole r.first (omega arith) i; second = whole r.second (omega arith) i; total = whole r.total (omega arith) i; wait = whole r.wait (omega arith) i; split = whole r.split (omega arith) i }

body_again : {R : Type 0} (count : ℕ) (row : ℕ → List ℕ → R) (breaks : R → Option Refusal) (n : ℕ) (frame : List ℕ) (r : R) → length frame ≡ 2 + 2 * count → row (get_or frame 1 0) (fields frame) ≡ r → breaks r ≡ None → body count row breaks n frame ≡ Ok r
unfolding body length_test
body_again count row breaks n frame r l e b =
    ap (λ (t : Bool). cond t (Ok tt) (Err (fault_at WrongLength n Frame)) then (λ _. kept n (row (get_or frame 1 0) (fields frame)) (breaks (row (get_or frame 1 0) (fields frame))))) (eq-eqb _ _ l)
    ∙ (λ i. kept n (e i) (breaks (e i)))
    ∙ ap (λ o. kept n r o) b

frame_bytes : (row : TextRow) → Lawful row → AllByRecursion Byte (frame_of row)
frame_bytes (Plain r) l = (omega arith, (l.0, bytes_in (take 3 (plain_numbers r))))
frame_bytes (Open r) l = (omega arith, (l.0, bytes_in (take 4 (open_numbers r))))
frame_bytes (Bounded r) l = (omega arith, (l.0, bytes_in (take 6 (bounded_numbers r))))

frame_again : (n : ℕ) (row : TextRow) → Lawful row → tag_of n (frame_of row) then (λ t. by_tag n (frame_of row) t) ≡ Ok row
frame_again n (Plain r) l = ap (λ x. x then (λ x. as_text (Plain x))) (body_again 3 plain_row plain_breaks n (frame_of (Plain r)) r refl (plain_again r l.1) l.1)
frame_again n (Open r) l = ap (λ x. x then (λ x. as_text (Open x))) (body_again 4 open_row open_breaks n (frame_of (Open r)) r refl (open_again r l.1) l.1)
frame_again n (Bounded r) l = ap (λ x. x then (λ x. as_text (Bounded x))) (body_again 6 bounded_row bounded_breaks n (frame_of (Bounded r)) r refl (bounded_again r l.1) l.1)

spells_passes : (n : ℕ) (text : List ℕ) → spells text ≡ true → digits_test n text ≡ Ok tt
unfolding digits_test
spells_passes n text s = ap (λ (b : Bool). cond b (Ok tt) (Err (fault_at BadDigit n Text))) s

pub written_read : (n : ℕ) (row : TextRow) → Lawful row → row_of n (spelled (frame_of row)) ≡ Ok row
written_read n row l =
    let a = frame_bytes row l in
    ap (λ (x : Result (Unit {0}) Fault). x then (λ _. tag_of n (bytes (spelled (frame_of row))) then (λ t. by_tag n (bytes (spelled (frame_of row))) t))) (spells_passes n (spelled (frame_of row)) (spells_spelled (frame_of row) a))
    ∙ ap (λ (bs : List ℕ). tag_of n bs then (λ t. by_tag n bs t)) (bytes_spelled (frame_of row) a)
    ∙ frame_again n row l

pub read_back : (n : ℕ) (row : TextRow) (text : List ℕ) → (row_of n text ≡ Ok row) ↔ (Lawful row × (text ≡ spelled (frame_of row)))
read_back n row text = (read_written n row text, λ p. ap (row_of n) p.1 ∙ written_read n row p.0)
