-- The pieces of a stroke by number, and windows that begin where one of them is ready.
use Rattle.std.proofs.Common.{◌≡◌, ℕ, zero, suc, ◌+◌, ◌-◌, ◌*◌, ◌<◌, ◌≤◌, min, List, ◌∷◌, get_or, ◌⊎◌, sym, ap, ◌∙◌, arith}
use Rattle.std.proofs.Math.Seq.{drop-nil}
use Rattle.std.proofs.lemmas.Bool.{lt-ltb, le-ltb, cond-true, cond-false}
use Rattle.std.proofs.lemmas.Bool.Decides.{nat_tests}
use Rattle.model.specs.Demand.{caps_by, from_wake, from_piece}
use Rattle.model.specs.Task.{Piece}
use Rattle.outside.specs.Pen.{stroke_task, pieces_from}

module _ (s e : ℕ) where
  -- n of the pieces are due by the offset e
  abbrev pub Due : ℕ → Type 0
  Due n = ((e ≤ 9) × (n ≡ 0)) ⊎ ((10 ≤ e) × (e ≤ 29) × (n ≡ 1)) ⊎ ((30 ≤ e) × (e ≤ 59) × (n ≡ 2)) ⊎ ((60 ≤ e) × (n ≡ 3))

  times : (m n : ℕ) → m ≡ n → m * s ≡ n * s
  times m n r = ap (λ m. m * s) r

  pub caps_due : (k n m : ℕ) → Due n → m ≡ n - k → m * s ≡ caps_by e (pieces_from k s)
  caps_due zero n m d r = grind (arith, nat_tests, times m 0, times m 1, times m 2, times m 3)
  caps_due (suc zero) n m d r = grind (arith, nat_tests, times m 0, times m 1, times m 2)
  caps_due (suc (suc zero)) n m d r = grind (arith, nat_tests, times m 0, times m 1)
  caps_due (suc (suc (suc k))) n m d r = grind (arith, times m 0, ap (caps_by e) (drop-nil {A = Piece} k))

module _ (s : ℕ) (p : Piece) (ps : List Piece) (t : ℕ) where
  costs : (caps : ℕ) → min (3 * s) caps ≡ min (s + (s + s)) caps
  costs caps = omega arith

  -- a window that ends before the next wake
  pub within : (n u : ℕ) → p.ready + t < 60 → u ≡ t → n ≡ min (3 * s) (caps_by (p.ready + u) (p ∷ ps)) → n ≡ from_piece (stroke_task s) p ps t
  unfolding from_piece
  within n u h r e = e ∙ costs _ ∙ ap (λ u. min (s + (s + s)) (caps_by (p.ready + u) (p ∷ ps))) r ∙ sym (cond-true _ _ _ (lt-ltb (p.ready + t) 60 h))

  pub beyond : (m rest n : ℕ) → 60 ≤ p.ready + t → rest ≡ (p.ready + t) - 60 → m ≡ min (3 * s) (caps_by 60 (p ∷ ps)) → n ≡ from_wake (stroke_task s) rest → m + n ≡ from_piece (stroke_task s) p ps t
  unfolding from_piece
  beyond m rest n h r e w = ap (λ m. m + n) (e ∙ costs _) ∙ ap (λ n. min (s + (s + s)) (caps_by 60 (p ∷ ps)) + n) (w ∙ ap (from_wake (stroke_task s)) r) ∙ sym (cond-false _ _ _ (le-ltb (p.ready + t) 60 h))

-- piece k of a stroke is ready 20 k after the wake
pub ready_at : (k s : ℕ) (p : Piece) (ps : List Piece) → k ≤ 2 → pieces_from k s ≡ p ∷ ps → p.ready ≡ 20 * k
ready_at zero s p ps h e = ap (λ ps. (get_or ps 0 p).ready) (sym e)
ready_at (suc zero) s p ps h e = ap (λ ps. (get_or ps 0 p).ready) (sym e)
ready_at (suc (suc zero)) s p ps h e = ap (λ ps. (get_or ps 0 p).ready) (sym e)
ready_at (suc (suc (suc k))) s p ps h e = absurd (omega arith)
