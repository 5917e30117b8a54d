-- Frames: a tag byte, a name byte, then fields of two bytes each, the high byte first.
use Rattle.std.specs.Prelude.{ℕ, ◌+◌, ◌*◌, ◌/◌, ◌%◌, cond, List, [], ◌∷◌, length, Some, None, Ok, Err, Option, Result, ◌==◌, slice_index}
use Rattle.model.specs.declared.refusal.Refusal.{Refusal}
use Rattle.model.specs.declared.refusal.Refusal.TheVariants.{BadDigit, UnknownTag, WrongLength}
use Rattle.rows.specs.declared.bare.PlainRow.{PlainRow}
use Rattle.rows.specs.declared.bare.OpenRow.{OpenRow}
use Rattle.rows.specs.declared.bare.SettledRow.{SettledRow}
use Rattle.rows.specs.declared.bare.BoundedRow.{BoundedRow}
use Rattle.frames.specs.declared.fault.Fault.{Fault}
use Rattle.frames.specs.declared.fault.Layer.{Layer}
use Rattle.frames.specs.declared.fault.Layer.TheVariants.{Text, Frame, Row}
use Rattle.frames.specs.Hex.{spells, bytes}

-- The rows of a name and a list of numbers, and back: six numbers, 0 past those of the kind.
abbrev pub plain_row : ℕ → List ℕ → PlainRow
plain_row n f = record { name = n; spacing = slice_index f 0; due = slice_index f 1; cost = slice_index f 2 }

abbrev pub plain_numbers : PlainRow → List ℕ
plain_numbers r = r.spacing ∷ r.due ∷ r.cost ∷ 0 ∷ 0 ∷ 0 ∷ []

abbrev pub open_row : ℕ → List ℕ → OpenRow
open_row n f = record { name = n; spacing = slice_index f 0; first = slice_index f 1; wait = slice_index f 2; second = slice_index f 3 }

abbrev pub open_numbers : OpenRow → List ℕ
open_numbers r = r.spacing ∷ r.first ∷ r.wait ∷ r.second ∷ 0 ∷ 0 ∷ []

abbrev pub bounded_row : ℕ → List ℕ → BoundedRow
bounded_row n f = record { name = n; spacing = slice_index f 0; first = slice_index f 1; second = slice_index f 2; total = slice_index f 3; wait = slice_index f 4; split = slice_index f 5 }

abbrev pub bounded_numbers : BoundedRow → List ℕ
bounded_numbers r = r.spacing ∷ r.first ∷ r.second ∷ r.total ∷ r.wait ∷ r.split ∷ []

abbrev pub settled_row : ℕ → List ℕ → SettledRow
settled_row n f = record { name = n; spacing = slice_index f 0; first = slice_index f 1; wait = slice_index f 2; second = slice_index f 3; split = slice_index f 4 }

abbrev pub settled_numbers : SettledRow → List ℕ
settled_numbers r = r.spacing ∷ r.first ∷ r.wait ∷ r.second ∷ r.split ∷ 0 ∷ []

abbrev pub fault_at : Refusal → ℕ → Layer → Fault
fault_at e n y = record { refusal = e; line = n; layer = y }

-- what the layer of frames refuses
abbrev pub frame_fault : Refusal → ℕ → Fault
frame_fault e n = fault_at e n Frame

-- field k of a frame, counted from 0; 0 past the frame's end
abbrev pub field : List ℕ → ℕ → ℕ
field frame k = 256 * slice_index frame (2 * k + 2) + slice_index frame (2 * k + 3)

abbrev pub fields : List ℕ → List ℕ
fields frame = field frame 0 ∷ field frame 1 ∷ field frame 2 ∷ field frame 3 ∷ field frame 4 ∷ field frame 5 ∷ []

-- what comes after a step of reading, unless that refused
infixr 20 ◌then◌
abbrev pub ◌then◌ : {X Y : Type 0} → Result X Fault → (X → Result Y Fault) → Result Y Fault
(Ok x) then next = next x
(Err e) then next = Err e

-- The steps of reading line n, in their order: its digits,
unfoldable pub digits_test : ℕ → List ℕ → Result (Unit {0}) Fault
digits_test n text = cond (spells text) (Ok tt) (Err (fault_at BadDigit n Text))

-- the tag of its frame,
abbrev pub tag_of : ℕ → List ℕ → Result ℕ Fault
tag_of n [] = Err (fault_at UnknownTag n Frame)
tag_of n (tag ∷ rest) = Ok tag

-- the length of a frame with some count of fields,
unfoldable pub length_test : ℕ → ℕ → List ℕ → Result (Unit {0}) Fault
length_test n count frame = cond (length frame == 2 + 2 * count) (Ok tt) (Err (fault_at WrongLength n Frame))

-- and the rules of the row's kind.
abbrev pub kept : {R : Type 0} → ℕ → R → Option Refusal → Result R Fault
kept n row None = Ok row
kept n row (Some e) = Err (fault_at e n Row)

-- a frame in line n, read as a kind of row that has some count of fields
unfoldable pub body : {R : Type 0} → ℕ → (ℕ → List ℕ → R) → (R → Option Refusal) → ℕ → List ℕ → Result R Fault
body count row breaks n frame = length_test n count frame then (λ _. kept n (row (slice_index frame 1) (fields frame)) (breaks (row (slice_index frame 1) (fields frame))))

-- a frame in line n, read as a kind of row that has some tag and some count of fields
abbrev pub tagged_body : {R : Type 0} → ℕ → ℕ → (ℕ → List ℕ → R) → (R → Option Refusal) → ℕ → List ℕ → Result R Fault
tagged_body tag count row breaks n frame = tag_of n frame then (λ t. cond (t == tag) (body count row breaks n frame) (Err (fault_at UnknownTag n Frame)))

-- the text of line n, read as a kind of row that has some tag and some count of fields
abbrev pub framed : {R : Type 0} → ℕ → ℕ → (ℕ → List ℕ → R) → (R → Option Refusal) → ℕ → List ℕ → Result R Fault
framed tag count row breaks n text = digits_test n text then (λ _. tagged_body tag count row breaks n (bytes text))

-- Numbers as fields: two bytes each, the high byte first.
abbrev pub in_bytes : List ℕ → List ℕ
in_bytes [] = []
in_bytes (n ∷ ns) = (n / 256 % 256) ∷ (n % 256) ∷ in_bytes ns

-- the frame of a tag, a name and some numbers
abbrev pub framed_row : ℕ → ℕ → List ℕ → List ℕ
framed_row tag name numbers = tag ∷ name ∷ in_bytes numbers
