-- A text is accepted exactly where it is the lines of lawful rows that the tables can take.
use Rattle.std.proofs.Common.{◌≡◌, ℕ, ◌+◌, ◌/◌, ◌%◌, ◌<◌, ◌≤◌, min, Bool, true, false, cond, eqb, ◌↔◌, List, [], ◌∷◌, ◌++◌, map, length, Some, None, Ok, Err, Result, sym, refl, ap, ◌∙◌, subst, arith, eqb-true}
use Rattle.std.specs.List.{flat_map, AllByRecursion}
use Rattle.std.proofs.lemmas.List.{append-nil, append_assoc, length-append}
use Rattle.std.proofs.lemmas.Bool.Decides.{nat_tests}
use Rattle.frames.specs.declared.fault.Fault.{Fault}
use Rattle.frames.specs.declared.frame.TextRow.{TextRow}
use Rattle.frames.specs.declared.frame.TextRow.TheVariants.{Plain, Open, Bounded}
use Rattle.frames.specs.declared.text.Counts.{Counts}
use Rattle.frames.specs.Hex.{digit, spelled, line}
use Rattle.frames.specs.Rows.{row_of}
use Rattle.frames.specs.Texts.{lines, longer, ended, plain_rows, open_rows, bounded_rows, counts_of, of_kind, room, Outcome, stopped, go_on, reads, text_test, text_read}
use Rattle.frames.specs.Laws.{frame_of, Lawful, Fit, accepted}
use Rattle.frames.proofs.Ends.{text_good, tested_short, tested_ended}
use Rattle.frames.proofs.Readback.{read_written, written_read}
use Rattle.frames.proofs.Rooms.{room_left, room_ok}
use Rattle.frames.proofs.Turning.{plain_append, open_append, bounded_append}

-- lines put together again
abbrev ended_line : List ℕ → List ℕ
ended_line l = l ++ 10 ∷ []

abbrev unlines : List (List ℕ) → List ℕ
unlines ls = flat_map ended_line ls

unlines_longer : (b : ℕ) (ls : List (List ℕ)) → 0 < length ls → unlines (longer b ls) ≡ b ∷ unlines ls
unlines_longer b [] h = absurd (omega arith)
unlines_longer b (l ∷ ls) h = refl

some_line : (b : ℕ) (text : List ℕ) → 0 < length (lines (b ∷ text))
some_line b text = go (eqb b 10) (lines text)
  where
    go : (t : Bool) (ls : List (List ℕ)) → 0 < length (cond t ([] ∷ ls) (longer b ls))
    go true ls = omega arith
    go false [] = omega arith
    go false (l ∷ ls) = omega arith

together : (text : List ℕ) → ended text ≡ true → unlines (lines text) ≡ text
together [] e = refl
together (b ∷ []) e = go (eqb b 10) refl
  where
    go : (t : Bool) → eqb b 10 ≡ t → unlines (lines (b ∷ [])) ≡ b ∷ []
    go true p = ap (λ (t : Bool). unlines (cond t ([] ∷ []) ((b ∷ []) ∷ []))) p ∙ ap (λ (x : ℕ). x ∷ []) (sym (eqb-true b 10 p))
    go false p = let z : ◌≡◌ {A = Bool} true false = sym e ∙ p in cc
together (b ∷ c ∷ text) e = go (eqb b 10) refl (together (c ∷ text) e)
  where
    go : (t : Bool) → eqb b 10 ≡ t → unlines (lines (c ∷ text)) ≡ c ∷ text → unlines (lines (b ∷ c ∷ text)) ≡ b ∷ c ∷ text
    go true p rest = ap (λ (t : Bool). unlines (cond t ([] ∷ lines (c ∷ text)) (longer b (lines (c ∷ text))))) p ∙ (λ i. sym (eqb-true b 10 p) i ∷ rest i)
    go false p rest = ap (λ (t : Bool). unlines (cond t ([] ∷ lines (c ∷ text)) (longer b (lines (c ∷ text))))) p ∙ unlines_longer b (lines (c ∷ text)) (some_line c text) ∙ ap (λ (l : List ℕ). b ∷ l) rest

-- lines taken apart again
abbrev Inner : ℕ → Type 0
Inner b = eqb b 10 ≡ false

apart : (l rest : List ℕ) → AllByRecursion Inner l → lines (l ++ 10 ∷ rest) ≡ l ∷ lines rest
apart [] rest a = refl
apart (b ∷ l) rest a =
    ap (λ (t : Bool). cond t ([] ∷ lines (l ++ 10 ∷ rest)) (longer b (lines (l ++ 10 ∷ rest)))) a.0
    ∙ ap (longer b) (apart l rest a.1)

ends_well : (l rest : List ℕ) → ended rest ≡ true → ended (l ++ 10 ∷ rest) ≡ true
ends_well [] [] e = refl
ends_well [] (c ∷ rest) e = e
ends_well (b ∷ []) rest e = ends_well [] rest e
ends_well (b ∷ c ∷ l) rest e = ends_well (c ∷ l) rest e

digit_inner : (v : ℕ) → Inner (digit v)
digit_inner v = grind (arith, nat_tests)

spelled_inner : (bs : List ℕ) → AllByRecursion Inner (spelled bs)
spelled_inner [] = tt
spelled_inner (b ∷ bs) = (digit_inner (b / 16), (digit_inner (b % 16), spelled_inner bs))

abbrev text_of : TextRow → List ℕ
text_of row = spelled (frame_of row)

abbrev written : List TextRow → List ℕ
written rows = flat_map (λ row. line (frame_of row)) rows

lines_written : (rows : List TextRow) → lines (written rows) ≡ map text_of rows
lines_written [] = refl
lines_written (row ∷ rows) =
    ap lines (append_assoc (text_of row) (10 ∷ []) (written rows))
    ∙ apart (text_of row) (written rows) (spelled_inner (frame_of row))
    ∙ ap (λ (ls : List (List ℕ)). text_of row ∷ ls) (lines_written rows)

ended_written : (rows : List TextRow) → ended (written rows) ≡ true
ended_written [] = refl
ended_written (row ∷ rows) = ap ended (append_assoc (text_of row) (10 ∷ []) (written rows)) ∙ ends_well (text_of row) (written rows) (ended_written rows)

unlines_written : (rows : List TextRow) → unlines (map text_of rows) ≡ written rows
unlines_written [] = refl
unlines_written (row ∷ rows) = ap (λ (rest : List ℕ). ended_line (text_of row) ++ rest) (unlines_written rows)

-- rows that the tables can take
module _ (places : Counts) where
  plain_long : (xs ys : List TextRow) → length (plain_rows (xs ++ ys)) ≡ length (plain_rows xs) + length (plain_rows ys)
  plain_long xs ys = ap length (plain_append xs ys) ∙ length-append (plain_rows xs) (plain_rows ys)

  open_long : (xs ys : List TextRow) → length (open_rows (xs ++ ys)) ≡ length (open_rows xs) + length (open_rows ys)
  open_long xs ys = ap length (open_append xs ys) ∙ length-append (open_rows xs) (open_rows ys)

  bounded_long : (xs ys : List TextRow) → length (bounded_rows (xs ++ ys)) ≡ length (bounded_rows xs) + length (bounded_rows ys)
  bounded_long xs ys = ap length (bounded_append xs ys) ∙ length-append (bounded_rows xs) (bounded_rows ys)

  fit_push : (done : List TextRow) (row : TextRow) → Fit places done → of_kind row (counts_of done) < min 32 (of_kind row places) → Fit places (done ++ row ∷ [])
  fit_push done (Plain r) f h = (omega (arith, plain_long done (Plain r ∷ [])), omega (arith, open_long done (Plain r ∷ [])), omega (arith, bounded_long done (Plain r ∷ [])))
  fit_push done (Open r) f h = (omega (arith, plain_long done (Open r ∷ [])), omega (arith, open_long done (Open r ∷ [])), omega (arith, bounded_long done (Open r ∷ [])))
  fit_push done (Bounded r) f h = (omega (arith, plain_long done (Bounded r ∷ [])), omega (arith, open_long done (Bounded r ∷ [])), omega (arith, bounded_long done (Bounded r ∷ [])))

  fit_next : (done : List TextRow) (row : TextRow) (rest : List TextRow) → Fit places (done ++ row ∷ rest) → of_kind row (counts_of done) < min 32 (of_kind row places)
  fit_next done (Plain r) rest f = omega (arith, plain_long done (Plain r ∷ rest))
  fit_next done (Open r) rest f = omega (arith, open_long done (Open r ∷ rest))
  fit_next done (Bounded r) rest f = omega (arith, bounded_long done (Bounded r ∷ rest))

  never : {A : Type 0} (done rows : List TextRow) (e : Fault) → stopped done e ≡ accepted rows → A
  never done rows e p = let q : Some e ≡ None = ap (λ (o : Outcome). o.fault) p in cc

  abbrev after_room : List TextRow → List (List ℕ) → TextRow → Result ℕ Fault → Outcome
  after_room done rest row x = go_on done x (λ _. reads places (done ++ row ∷ []) rest)

  abbrev room_of : List TextRow → TextRow → Result ℕ Fault
  room_of done row = room (length done + 1) (of_kind row places) (of_kind row (counts_of done))

  abbrev after_row : List TextRow → List (List ℕ) → Result TextRow Fault → Outcome
  after_row done rest x = go_on done x (λ row. after_room done rest row (room_of done row))

  abbrev Given : List TextRow → List TextRow → List (List ℕ) → Type 0
  Given done rows ls = (new : List TextRow) × (rows ≡ done ++ new) × (ls ≡ map text_of new) × AllByRecursion Lawful new × Fit places rows

  abbrev More : List TextRow → List TextRow → List (List ℕ) → Type 0
  More done rows ls = (row : TextRow) → reads places (done ++ row ∷ []) ls ≡ accepted rows → Fit places (done ++ row ∷ []) → Given (done ++ row ∷ []) rows ls

  read_lines : (ls : List (List ℕ)) (done rows : List TextRow) → reads places done ls ≡ accepted rows → Fit places done → Given done rows ls
  read_lines [] done rows e f =
      let s : done ≡ rows = ap (λ (o : Outcome). o.rows) e in
      ([], sym s ∙ sym (append-nil done), refl, tt, subst (λ (rs : List TextRow). Fit places rs) s f)
  read_lines (t ∷ ls) done rows e f = go (row_of (length done + 1) t) refl e (λ row. read_lines ls (done ++ row ∷ []) rows)
    where
      go_room : (row : TextRow) (x : Result ℕ Fault) → row_of (length done + 1) t ≡ Ok row → room_of done row ≡ x → after_room done ls row x ≡ accepted rows → More done rows ls → Given done rows (t ∷ ls)
      go_room row (Err d) p q e more = never done rows d e
      go_room row (Ok k) p q e more =
          let w = read_written (length done + 1) row t p in
          let g = more row e (fit_push done row f (room_ok (length done + 1) (of_kind row places) (of_kind row (counts_of done)) k q)) in
          (row ∷ g.0, g.1 ∙ append_assoc done (row ∷ []) g.0, (λ i. w.1 i ∷ g.2 i), (w.0, g.3), g.4)

      go : (x : Result TextRow Fault) → row_of (length done + 1) t ≡ x → after_row done ls x ≡ accepted rows → More done rows ls → Given done rows (t ∷ ls)
      go (Err d) p e more = never done rows d e
      go (Ok row) p e more = go_room row (room_of done row) p refl e more

  write_lines : (new done : List TextRow) → AllByRecursion Lawful new → Fit places (done ++ new) → reads places done (map text_of new) ≡ accepted (done ++ new)
  write_lines [] done a f = ap accepted (sym (append-nil done))
  write_lines (row ∷ new) done a f =
      let h = fit_next done row new f in
      let s : (done ++ row ∷ []) ++ new ≡ done ++ row ∷ new = append_assoc done (row ∷ []) new in
      ap (after_row done (map text_of new)) (written_read (length done + 1) row a.0)
      ∙ ap (after_room done (map text_of new) row) (room_left (length done + 1) (of_kind row places) (of_kind row (counts_of done)) h)
      ∙ write_lines new (done ++ row ∷ []) a.1 (subst (λ (rs : List TextRow). Fit places rs) (sym s) f)
      ∙ ap accepted s

pub accepted_texts : (places : Counts) (rows : List TextRow) (text : List ℕ) → (text_read places text ≡ accepted rows) ↔ ((text ≡ written rows) × AllByRecursion Lawful rows × Fit places rows × (length text ≤ 16384))
accepted_texts places rows text = (there (text_test text) refl, back)
  where
    there : (x : Result (Unit {0}) Fault) → text_test text ≡ x → go_on [] x (λ _. reads places [] (lines text)) ≡ accepted rows → (text ≡ written rows) × AllByRecursion Lawful rows × Fit places rows × (length text ≤ 16384)
    there (Err d) p e = never places [] rows d e
    there (Ok u) p e =
        let g = read_lines places (lines text) [] rows e (omega arith, omega arith, omega arith) in
        let same : rows ≡ g.0 = g.1 in (
          sym (together text (tested_ended text u p)) ∙ ap unlines g.2 ∙ unlines_written g.0 ∙ ap written (sym same),
          subst (λ (rs : List TextRow). AllByRecursion Lawful rs) (sym same) g.3,
          g.4,
          tested_short text u p,
        )

    back : (text ≡ written rows) × AllByRecursion Lawful rows × Fit places rows × (length text ≤ 16384) → text_read places text ≡ accepted rows
    back b =
        ap (λ (x : Result (Unit {0}) Fault). go_on [] x (λ _. reads places [] (lines text))) (sym (text_good text b.3 (ap ended b.0 ∙ ended_written rows)))
        ∙ ap (λ (ls : List (List ℕ)). reads places [] ls) (ap lines b.0 ∙ lines_written rows)
        ∙ write_lines places rows [] b.1 b.2
