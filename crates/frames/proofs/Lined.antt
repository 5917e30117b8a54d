-- The lines of a text, one after the other.
use Rattle.std.proofs.Common.{◌≡◌, ℕ, ◌+◌, List, [], ◌∷◌, ◌++◌, length, Ok, Err, sym, ap, ◌∙◌}
use Rattle.std.proofs.lemmas.List.{length_push}
use Rattle.rows.specs.declared.bare.PlainRow.{PlainRow}
use Rattle.rows.specs.declared.bare.OpenRow.{OpenRow}
use Rattle.rows.specs.declared.bare.BoundedRow.{BoundedRow}
use Rattle.frames.specs.declared.fault.Fault.{Fault}
use Rattle.frames.specs.declared.frame.TextRow.{TextRow}
use Rattle.frames.specs.declared.text.Counts.{Counts}
use Rattle.frames.specs.Rows.{row_of}
use Rattle.frames.specs.Texts.{places_of, plain_rows, open_rows, bounded_rows, filled, Outcome, stopped, reads, answered, Done}
use Rattle.frames.specs.Turns.{counts_after, plain_after, open_after, bounded_after}
use Rattle.frames.proofs.Turning.{Held, held_counts, turn, turn_fault, told}

module _ (p0 : List PlainRow) (o0 : List OpenRow) (b0 : List BoundedRow) where
  -- what was done with the row of line n, given the lines after it
  pub record Put (done : List TextRow) (c : Counts) (p : List PlainRow) (o : List OpenRow) (b : List BoundedRow) (n : ℕ) (line : List ℕ) (rest : List (List ℕ)) (row : TextRow) (p' : List PlainRow) (o' : List OpenRow) (b' : List BoundedRow) (whole : Outcome) : Type 0 where
    pub held : Held p0 o0 b0 done c p o b
    pub number : n ≡ length done + 1
    pub onward : reads (places_of p0 o0 b0) done (line ∷ rest) ≡ whole
    pub read : row_of n line ≡ Ok row
    pub plain : p' ≡ plain_after row c p
    pub opened : o' ≡ open_after row c o
    pub bounded : b' ≡ bounded_after row c b

  module _ (done : List TextRow) (c : Counts) (p : List PlainRow) (o : List OpenRow) (b : List BoundedRow) (n : ℕ) (line : List ℕ) (rest : List (List ℕ)) (row : TextRow) (p' : List PlainRow) (o' : List OpenRow) (b' : List BoundedRow) (whole : Outcome) (t : Put done c p o b n line rest row p' o' b' whole) where
    read_at : row_of (length done + 1) line ≡ Ok row
    read_at = ap (λ k. row_of k line) (sym t.number) ∙ t.read

    moved : (x : List TextRow) (c' : Counts) → Held p0 o0 b0 x c' (plain_after row c p) (open_after row c o) (bounded_after row c b) → Held p0 o0 b0 x c' p' o' b'
    moved x c' h = rw (t.plain, t.opened, t.bounded) h

    pub again : (c' : Counts) → counts_after n row p o b c ≡ Ok c' → (x : List TextRow) × Held p0 o0 b0 x c' p' o' b' × (length x ≡ n) × (reads (places_of p0 o0 b0) x rest ≡ whole)
    again c' e =
        let g = turn p0 o0 b0 done line rest c p o b t.held c' row read_at (ap (λ k. counts_after k row p o b c) (sym t.number) ∙ e) in (
          done ++ row ∷ [],
          moved (done ++ row ∷ []) c' g.0,
          length_push done row ∙ sym t.number,
          sym g.1 ∙ t.onward,
        )

    pub stops : (f : Fault) → counts_after n row p o b c ≡ Err f → Done whole (Err f) p0 o0 b0 p' o' b'
    stops f e =
        let g = turn_fault p0 o0 b0 done line rest c p o b t.held f row read_at (ap (λ k. counts_after k row p o b c) (sym t.number) ∙ e) in
        let w : stopped done f ≡ whole = sym g.1 ∙ t.onward in
        let h = moved done c g.0 in
        record {
          answer = ap answered w;
          plain_table = h.plains.same ∙ ap (λ (q : Outcome). filled (plain_rows q.rows) p0) w;
          open_table = h.opens.same ∙ ap (λ (q : Outcome). filled (open_rows q.rows) o0) w;
          bounded_table = h.boundeds.same ∙ ap (λ (q : Outcome). filled (bounded_rows q.rows) b0) w;
        }

  pub ends : (done : List TextRow) (c : Counts) (p : List PlainRow) (o : List OpenRow) (b : List BoundedRow) (whole : Outcome) → Held p0 o0 b0 done c p o b → reads (places_of p0 o0 b0) done [] ≡ whole → Done whole (Ok c) p0 o0 b0 p o b
  ends done c p o b whole h w =
      record {
        answer = ap told (held_counts p0 o0 b0 done c p o b h) ∙ ap answered w;
        plain_table = h.plains.same ∙ ap (λ (q : Outcome). filled (plain_rows q.rows) p0) w;
        open_table = h.opens.same ∙ ap (λ (q : Outcome). filled (open_rows q.rows) o0) w;
        bounded_table = h.boundeds.same ∙ ap (λ (q : Outcome). filled (bounded_rows q.rows) b0) w;
      }
