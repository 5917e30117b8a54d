-- One line more: the tables, their counts and the rows that were read.
use Rattle.std.proofs.Common.{◌≡◌, ℕ, ◌+◌, List, [], ◌∷◌, ◌++◌, length, Ok, Err, Result, sym, refl, ap, ◌∙◌, subst, inl, inr}
use Rattle.std.proofs.lemmas.List.{append-nil}
use Rattle.rows.specs.declared.bare.PlainRow.{PlainRow}
use Rattle.rows.specs.declared.bare.OpenRow.{OpenRow}
use Rattle.rows.specs.declared.bare.BoundedRow.{BoundedRow}
use Rattle.frames.specs.declared.fault.Fault.{Fault}
use Rattle.frames.specs.declared.frame.TextRow.{TextRow}
use Rattle.frames.specs.declared.frame.TextRow.TheVariants.{Plain, Open, Bounded}
use Rattle.frames.specs.declared.text.Counts.{Counts}
use Rattle.frames.specs.Frames.{◌then◌}
use Rattle.frames.specs.Rows.{row_of}
use Rattle.frames.specs.Texts.{plain_rows, open_rows, bounded_rows, counts_of, of_kind, room, places_of, stopped, go_on, reads}
use Rattle.frames.specs.Turns.{stored, counts_after, plain_after, open_after, bounded_after}
use Rattle.frames.proofs.Rooms.{Filling, more_or_not}

pub plain_append : (xs ys : List TextRow) → plain_rows (xs ++ ys) ≡ plain_rows xs ++ plain_rows ys
plain_append [] ys = refl
plain_append (Plain r ∷ xs) ys = ap (λ l. r ∷ l) (plain_append xs ys)
plain_append (Open r ∷ xs) ys = plain_append xs ys
plain_append (Bounded r ∷ xs) ys = plain_append xs ys

pub open_append : (xs ys : List TextRow) → open_rows (xs ++ ys) ≡ open_rows xs ++ open_rows ys
open_append [] ys = refl
open_append (Plain r ∷ xs) ys = open_append xs ys
open_append (Open r ∷ xs) ys = ap (λ l. r ∷ l) (open_append xs ys)
open_append (Bounded r ∷ xs) ys = open_append xs ys

pub bounded_append : (xs ys : List TextRow) → bounded_rows (xs ++ ys) ≡ bounded_rows xs ++ bounded_rows ys
bounded_append [] ys = refl
bounded_append (Plain r ∷ xs) ys = bounded_append xs ys
bounded_append (Open r ∷ xs) ys = bounded_append xs ys
bounded_append (Bounded r ∷ xs) ys = ap (λ l. r ∷ l) (bounded_append xs ys)

-- the rows of another kind are as they were
other : {R : Type 0} {kept now before table : List R} {count : ℕ} → now ≡ kept ++ [] → Filling kept before table count → Filling now before table count
other {R} {kept} {now} {before} {table} {count} e f = subst (λ (l : List R). Filling l before table count) (sym (e ∙ append-nil kept)) f

same_kind : {R : Type 0} {rows now before table : List R} {count : ℕ} → now ≡ rows → Filling rows before table count → Filling now before table count
same_kind {R} {rows} {now} {before} {table} {count} e f = subst (λ (l : List R). Filling l before table count) (sym e) f

abbrev pub told : Counts → Result Counts Fault
told c = Ok c

never : {A : Type 0} {c : Counts} {e : Fault} → told c ≡ Err e → A
never {A} {c} {e} p = cc

abbrev refused : Fault → Result Counts Fault
refused e = Err e

fault_same : (e f : Fault) → refused e ≡ Err f → e ≡ f
fault_same e f p = cc

module _ (p0 : List PlainRow) (o0 : List OpenRow) (b0 : List BoundedRow) where
  pub record Held (done : List TextRow) (c : Counts) (p : List PlainRow) (o : List OpenRow) (b : List BoundedRow) : Type 0 where
    pub plains : Filling (plain_rows done) p0 p c.plains
    pub opens : Filling (open_rows done) o0 o c.opens
    pub boundeds : Filling (bounded_rows done) b0 b c.boundeds

  pub held_counts : (done : List TextRow) (c : Counts) (p : List PlainRow) (o : List OpenRow) (b : List BoundedRow) → Held done c p o b → c ≡ counts_of done
  held_counts done c p o b h = λ i. record { plains = h.plains.counted i; opens = h.opens.counted i; boundeds = h.boundeds.counted i }

  module _ (done : List TextRow) (t : List ℕ) (rest : List (List ℕ)) where
    reads_more : (row : TextRow) (k : ℕ) → row_of (length done + 1) t ≡ Ok row → room (length done + 1) (of_kind row (places_of p0 o0 b0)) (of_kind row (counts_of done)) ≡ Ok k → reads (places_of p0 o0 b0) done (t ∷ rest) ≡ reads (places_of p0 o0 b0) (done ++ row ∷ []) rest
    reads_more row k e r =
        ap (λ x. go_on done x (λ row. go_on done (room (length done + 1) (of_kind row (places_of p0 o0 b0)) (of_kind row (counts_of done))) (λ _. reads (places_of p0 o0 b0) (done ++ row ∷ []) rest))) e
        ∙ ap (λ x. go_on done x (λ _. reads (places_of p0 o0 b0) (done ++ row ∷ []) rest)) r

    reads_full : (row : TextRow) (f : Fault) → row_of (length done + 1) t ≡ Ok row → room (length done + 1) (of_kind row (places_of p0 o0 b0)) (of_kind row (counts_of done)) ≡ Err f → reads (places_of p0 o0 b0) done (t ∷ rest) ≡ stopped done f
    reads_full row f e r =
        ap (λ x. go_on done x (λ row. go_on done (room (length done + 1) (of_kind row (places_of p0 o0 b0)) (of_kind row (counts_of done))) (λ _. reads (places_of p0 o0 b0) (done ++ row ∷ []) rest))) e
        ∙ ap (λ x. go_on done x (λ _. reads (places_of p0 o0 b0) (done ++ row ∷ []) rest)) r

    pub reads_fault : (f : Fault) → row_of (length done + 1) t ≡ Err f → reads (places_of p0 o0 b0) done (t ∷ rest) ≡ stopped done f
    reads_fault f e =
        ap (λ x. go_on done x (λ row. go_on done (room (length done + 1) (of_kind row (places_of p0 o0 b0)) (of_kind row (counts_of done))) (λ _. reads (places_of p0 o0 b0) (done ++ row ∷ []) rest))) e

    module _ (c : Counts) (p : List PlainRow) (o : List OpenRow) (b : List BoundedRow) (h : Held done c p o b) where
      -- a line whose row was stored
      pub turn : (c' : Counts) (row : TextRow) → row_of (length done + 1) t ≡ Ok row → counts_after (length done + 1) row p o b c ≡ Ok c' → (Held (done ++ row ∷ []) c' (plain_after row c p) (open_after row c o) (bounded_after row c b)) × (reads (places_of p0 o0 b0) done (t ∷ rest) ≡ reads (places_of p0 o0 b0) (done ++ row ∷ []) rest)
      turn c' (Plain row) q a = elim (more_or_not (plain_rows done) p0 p c.plains (length done + 1) row h.plains) [
        | inl m ↦
            let e : told (record { plains = c.plains + 1; opens = c.opens; boundeds = c.boundeds }) ≡ Ok c' = ap (λ k. k then (λ k. told (record { plains = k; opens = c.opens; boundeds = c.boundeds }))) (sym m.roomy) ∙ a in
            let s : record { plains = c.plains + 1; opens = c.opens; boundeds = c.boundeds } ≡ c' = cc in (
              subst (λ (c' : Counts). Held (done ++ Plain row ∷ []) c' (stored p c.plains row) o b) s (record {
                plains = same_kind (plain_append done (Plain row ∷ [])) m.after;
                opens = other (open_append done (Plain row ∷ [])) h.opens;
                boundeds = other (bounded_append done (Plain row ∷ [])) h.boundeds;
              }),
              reads_more (Plain row) _ q m.fits,
            )
        | inr m ↦ never (sym a ∙ ap (λ k. k then (λ k. told (record { plains = k; opens = c.opens; boundeds = c.boundeds }))) m.roomy)
      ]
      turn c' (Open row) q a = elim (more_or_not (open_rows done) o0 o c.opens (length done + 1) row h.opens) [
        | inl m ↦
            let e : told (record { plains = c.plains; opens = c.opens + 1; boundeds = c.boundeds }) ≡ Ok c' = ap (λ k. k then (λ k. told (record { plains = c.plains; opens = k; boundeds = c.boundeds }))) (sym m.roomy) ∙ a in
            let s : record { plains = c.plains; opens = c.opens + 1; boundeds = c.boundeds } ≡ c' = cc in (
              subst (λ (c' : Counts). Held (done ++ Open row ∷ []) c' p (stored o c.opens row) b) s (record {
                plains = other (plain_append done (Open row ∷ [])) h.plains;
                opens = same_kind (open_append done (Open row ∷ [])) m.after;
                boundeds = other (bounded_append done (Open row ∷ [])) h.boundeds;
              }),
              reads_more (Open row) _ q m.fits,
            )
        | inr m ↦ never (sym a ∙ ap (λ k. k then (λ k. told (record { plains = c.plains; opens = k; boundeds = c.boundeds }))) m.roomy)
      ]
      turn c' (Bounded row) q a = elim (more_or_not (bounded_rows done) b0 b c.boundeds (length done + 1) row h.boundeds) [
        | inl m ↦
            let e : told (record { plains = c.plains; opens = c.opens; boundeds = c.boundeds + 1 }) ≡ Ok c' = ap (λ k. k then (λ k. told (record { plains = c.plains; opens = c.opens; boundeds = k }))) (sym m.roomy) ∙ a in
            let s : record { plains = c.plains; opens = c.opens; boundeds = c.boundeds + 1 } ≡ c' = cc in (
              subst (λ (c' : Counts). Held (done ++ Bounded row ∷ []) c' p o (stored b c.boundeds row)) s (record {
                plains = other (plain_append done (Bounded row ∷ [])) h.plains;
                opens = other (open_append done (Bounded row ∷ [])) h.opens;
                boundeds = same_kind (bounded_append done (Bounded row ∷ [])) m.after;
              }),
              reads_more (Bounded row) _ q m.fits,
            )
        | inr m ↦ never (sym a ∙ ap (λ k. k then (λ k. told (record { plains = c.plains; opens = c.opens; boundeds = k }))) m.roomy)
      ]

      -- a line whose row had no room
      pub turn_fault : (f : Fault) (row : TextRow) → row_of (length done + 1) t ≡ Ok row → counts_after (length done + 1) row p o b c ≡ Err f → (Held done c (plain_after row c p) (open_after row c o) (bounded_after row c b)) × (reads (places_of p0 o0 b0) done (t ∷ rest) ≡ stopped done f)
      turn_fault f (Plain row) q a = elim (more_or_not (plain_rows done) p0 p c.plains (length done + 1) row h.plains) [
        | inl m ↦ never (ap (λ k. k then (λ k. told (record { plains = k; opens = c.opens; boundeds = c.boundeds }))) (sym m.roomy) ∙ a)
        | inr m ↦ (
          subst (λ (l : List PlainRow). Held done c l o b) (sym m.after) h,
          reads_full (Plain row) _ q m.fits ∙ ap (stopped done) (fault_same _ f (ap (λ k. k then (λ k. told (record { plains = k; opens = c.opens; boundeds = c.boundeds }))) (sym m.roomy) ∙ a)),
        )
      ]
      turn_fault f (Open row) q a = elim (more_or_not (open_rows done) o0 o c.opens (length done + 1) row h.opens) [
        | inl m ↦ never (ap (λ k. k then (λ k. told (record { plains = c.plains; opens = k; boundeds = c.boundeds }))) (sym m.roomy) ∙ a)
        | inr m ↦ (
          subst (λ (l : List OpenRow). Held done c p l b) (sym m.after) h,
          reads_full (Open row) _ q m.fits ∙ ap (stopped done) (fault_same _ f (ap (λ k. k then (λ k. told (record { plains = c.plains; opens = k; boundeds = c.boundeds }))) (sym m.roomy) ∙ a)),
        )
      ]
      turn_fault f (Bounded row) q a = elim (more_or_not (bounded_rows done) b0 b c.boundeds (length done + 1) row h.boundeds) [
        | inl m ↦ never (ap (λ k. k then (λ k. told (record { plains = c.plains; opens = c.opens; boundeds = k }))) (sym m.roomy) ∙ a)
        | inr m ↦ (
          subst (λ (l : List BoundedRow). Held done c p o l) (sym m.after) h,
          reads_full (Bounded row) _ q m.fits ∙ ap (stopped done) (fault_same _ f (ap (λ k. k then (λ k. told (record { plains = c.plains; opens = c.opens; boundeds = k }))) (sym m.roomy) ∙ a)),
        )
      ]

  pub held_none : Held [] (record { plains = 0; opens = 0; boundeds = 0 }) p0 o0 b0
  held_none = record {
    plains = record { same = refl; long = refl; counted = refl };
    opens = record { same = refl; long = refl; counted = refl };
    boundeds = record { same = refl; long = refl; counted = refl };
  }
