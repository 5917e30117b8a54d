-- Rows put into one table.
use Rattle.std.proofs.Common.{◌≡◌, ℕ, ◌+◌, ◌<◌, ◌≤◌, min, Bool, true, false, ltb, ◌⊎◌, List, [], ◌∷◌, ◌++◌, length, get_or, drop, set, Ok, Err, Result, sym, refl, ap, ◌∙◌, inl, inr, arith, ltb-false, ltb-true, le-ltb, lt-ltb}
use Rattle.std.proofs.lemmas.List.{append_assoc, drop_more, set_at, length_push, length-set}
use Rattle.std.proofs.lemmas.Bool.Decides.{nat_tests}
use Rattle.model.specs.declared.refusal.Refusal.TheVariants.{TooManyRows}
use Rattle.frames.specs.declared.fault.Fault.{Fault}
use Rattle.frames.specs.declared.fault.Layer.TheVariants.{Table}
use Rattle.frames.specs.Frames.{fault_at}
use Rattle.frames.specs.Texts.{room, filled}
use Rattle.frames.specs.Turns.{stored}

abbrev pub next_count : ℕ → Result ℕ Fault
next_count k = Ok k

abbrev pub full : ℕ → Result ℕ Fault
full n = Err (fault_at TooManyRows n Table)

module _ (n places count : ℕ) where
  room_full : min 32 places ≤ count → room n places count ≡ full n
  unfolding room
  room_full h = rw (le-ltb _ _ h) refl

  pub room_left : count < min 32 places → room n places count ≡ next_count (count + 1)
  unfolding room
  room_left h = rw (lt-ltb _ _ h) refl

  pub room_ok : (k : ℕ) → room n places count ≡ Ok k → count < min 32 places
  unfolding room
  room_ok k e = grind (arith, nat_tests)

module _ {R : Type 0} (table : List R) (count : ℕ) (row : R) where
  stored_full : min 32 (length table) ≤ count → stored table count row ≡ table
  unfolding stored
  stored_full h = rw (le-ltb _ _ h) refl

  stored_left : count < min 32 (length table) → stored table count row ≡ set table count row
  unfolding stored
  stored_left h = rw (lt-ltb _ _ h) refl

-- some rows fill the first places of a table, whose content before is kept behind them
pub record Filling {R : Type 0} (rows before table : List R) (count : ℕ) : Type 0 where
  pub same : table ≡ filled rows before
  pub long : length table ≡ length before
  pub counted : count ≡ length rows

filled_push : {R : Type 0} (rows before : List R) (row : R) → length rows < length before → set (filled rows before) (length rows) row ≡ filled (rows ++ row ∷ []) before
filled_push rows before row h =
    ap (λ rest. set (rows ++ rest) (length rows) row) (drop_more before (length rows) row h)
    ∙ set_at rows (get_or before (length rows) row) (drop (length rows + 1) before) row (length rows) refl
    ∙ sym (append_assoc rows (row ∷ []) (drop (length rows + 1) before))
    ∙ ap (λ k. (rows ++ row ∷ []) ++ drop k before) (sym (length_push rows row))

-- one row more: there was room and it fills the next place, or there was none and all is as it was
pub record More {R : Type 0} (rows before table : List R) (count n : ℕ) (row : R) : Type 0 where
  pub fits : room n (length before) (length rows) ≡ next_count (length rows + 1)
  pub roomy : room n (length table) count ≡ next_count (count + 1)
  pub after : Filling (rows ++ row ∷ []) before (stored table count row) (count + 1)

pub record NoMore {R : Type 0} (rows before table : List R) (count n : ℕ) (row : R) : Type 0 where
  pub fits : room n (length before) (length rows) ≡ full n
  pub roomy : room n (length table) count ≡ full n
  pub after : stored table count row ≡ table

pub more_or_not : {R : Type 0} (rows before table : List R) (count n : ℕ) (row : R) → Filling rows before table count → More rows before table count n row ⊎ NoMore rows before table count n row
more_or_not {R} rows before table count n row f = go (ltb count (min 32 (length table))) refl
  where
    go : (b : Bool) → ltb count (min 32 (length table)) ≡ b → More rows before table count n row ⊎ NoMore rows before table count n row
    go true e =
        let left = ltb-true _ _ e in inl (record {
          fits = room_left n (length before) (length rows) (omega (arith, f.counted, f.long));
          roomy = room_left n (length table) count left;
          after = record {
            same = stored_left table count row left ∙ (λ i. set (f.same i) (f.counted i) row) ∙ filled_push rows before row (omega (arith, f.counted, f.long));
            long = ap length (stored_left table count row left) ∙ length-set table count row ∙ f.long;
            counted = ap (λ k. k + 1) f.counted ∙ sym (length_push rows row);
          };
        })
    go false e =
        let none = ltb-false _ _ e in inr (record {
          fits = room_full n (length before) (length rows) (omega (arith, f.counted, f.long));
          roomy = room_full n (length table) count none;
          after = stored_full table count row none;
        })
