-- A task's pieces, copied one by one.
use Rattle.std.proofs.Common.{◌≡◌, ℕ, zero, suc, ◌+◌, ◌<◌, ◌≤◌, ltb, List, [], ◌∷◌, map, length, get_or, take, set, Some, None, Option, sym, refl, ap, ◌∙◌, subst, ⊎_elim, arith}
use Rattle.std.specs.List.{slice_get, AllByRecursion}
use Rattle.std.specs.Option.{option_map}
use Rattle.std.proofs.lemmas.List.{take_all, take-set, length-set, get_or-take, get_or-map}
use Rattle.std.proofs.lemmas.Option.{slice_get_cases}
use Rattle.std.proofs.lemmas.Bool.{cond_both}
use Rattle.model.specs.Task as task
use Rattle.model.specs.Asked.{told, found, spacing_told, total_told, nth_piece, piece_told, piece_tuple}
use Rattle.model.specs.Told.{told_piece, told_task}
use Rattle.machine.specs.declared.piece.Piece.{Piece}
use Rattle.machine.specs.Pieces.{no_piece}
use Rattle.machine.specs.Copies.{copied_piece, Copied, Copying}
use Rattle.machine.specs.Views.{piece_of}
use Rattle.machine.proofs.Fronts.{map_by}

abbrev none : task.Piece
none = record { ready = 0; due = 0; cap = 0 }

pub some_of : {X : Type 0} (x y : X) → Some x ≡ Some y → x ≡ y
some_of x y e = cc

-- a task that the load has is lawful
pub lawful_nth : (ts : List task.Task) → AllByRecursion task.Lawful ts → (i : ℕ) (t : task.Task) → slice_get ts i ≡ Some t → task.Lawful t
lawful_nth [] a i t e = absurd (cc)
lawful_nth (x ∷ xs) a zero t e = subst task.Lawful (some_of x t e) a.0
lawful_nth (x ∷ xs) a (suc i) t e = lawful_nth xs a.1 i t e

abbrev pub Rightful : Option task.Task → Type 0
Rightful None = Unit {0}
Rightful (Some t) = task.Lawful t

pub rightful_at : (ts : List task.Task) → AllByRecursion task.Lawful ts → (i : ℕ) → Rightful (found ts i)
unfolding found
rightful_at ts a i = cond_both (ltb i 32) (slice_get ts i) None Rightful (λ _. by (slice_get ts i) refl) (λ _. tt)
  where
    by : (o : Option task.Task) → slice_get ts i ≡ o → Rightful o
    by None e = tt
    by (Some t) e = lawful_nth ts a i t e

pub copy_all : (o : Option task.Task) (n : ℕ) (ps : List Piece) → 4 ≤ n → Rightful o → Copying o n ps → Copied o n ps
copy_all None n ps l r h = tt
copy_all (Some t) n ps l r h = (h.0, omega (arith, h.1, r.few), h.2 ∙ ap (map copied_piece) (take_all n t.pieces (omega (arith, r.few))))

-- the task has no piece beyond those that are copied, whatever stands in the next place
no_more : (ps : List task.Piece) (n j : ℕ) → j ≡ n + 1 → nth_piece ps j ≡ None → length ps ≤ n
no_more ps n zero is e = absurd (omega arith)
no_more ps n (suc j) is e = ⊎_elim (λ s. absurd (let q = sym (ap (option_map piece_tuple) s.2) ∙ e in cc)) (λ s. omega (arith, s.0)) (slice_get_cases ps j).1

pub copy_stop : (o : Option task.Task) (n : ℕ) (ps : List Piece) (p : Piece) → Copying o n ps → None ≡ piece_told o (n + 1) → Copied o n (set ps n p)
copy_stop None n ps p h e = tt
copy_stop (Some t) n ps p h e =
    let past = no_more t.pieces n (n + 1) refl (sym e) in
    (length-set ps n p ∙ h.0, omega (arith, h.1, past), take-set ps n p ∙ h.2 ∙ ap (map copied_piece) (take_all n t.pieces past))

-- a lawful task's numbers

ordered_end : (from end : ℕ) (ps : List task.Piece) → task.Ordered from end ps → from ≤ end
ordered_end from end [] h = h
ordered_end from end (p ∷ ps) h = omega (arith, h.0, h.1, ordered_end p.due end ps h.3)

ordered_at : (from end : ℕ) (ps : List task.Piece) → task.Ordered from end ps → (k : ℕ) → k < length ps → ((get_or ps k none).ready < (get_or ps k none).due) × ((get_or ps k none).due ≤ end)
ordered_at from end [] h k l = absurd (omega arith)
ordered_at from end (p ∷ ps) h zero l = (h.1, ordered_end p.due end ps h.3)
ordered_at from end (p ∷ ps) h (suc k) l = ordered_at p.due end ps h.3 k (omega arith)

starts_some : (ps : List task.Piece) → task.StartsAtWake ps → (1 ≤ length ps) × ((get_or ps 0 none).ready ≡ 0)
starts_some [] h = absurd h
starts_some (p ∷ ps) h = (omega arith, omega arith)

copied_at : (t : task.Task) (n : ℕ) (ps : List Piece) → Copied (Some t) n ps → (k : ℕ) → k < n → get_or ps k no_piece ≡ copied_piece (get_or t.pieces k none)
copied_at t n ps h k l =
    sym (get_or-take n ps k no_piece l) ∙ ap (λ (xs : List Piece). get_or xs k no_piece) h.2 ∙ get_or-map copied_piece t.pieces k none no_piece (omega (arith, h.1))

abbrev pub Owed : ℕ → ℕ → List Piece → Type 0
Owed spacing count ps =
    (length ps ≡ 4) × (spacing ≤ 10000) × (1 ≤ count) × (count ≤ 4) × ((get_or ps 0 no_piece).ready ≡ 0) ×
    ((k : ℕ) → k < count → (get_or ps k no_piece).ready < (get_or ps k no_piece).due) ×
    ((k : ℕ) → k < count → (get_or ps k no_piece).due ≤ 10000) ×
    ((k : ℕ) → k < count → (get_or ps k no_piece).cap ≤ 1000000000000000)

pub owed : (o : Option task.Task) (s n : ℕ) (ps : List Piece) → Rightful o → Some s ≡ spacing_told o → Copied o n ps → Owed s n ps
owed None s n ps r e h = absurd (cc)
owed (Some t) s n ps r e h =
    let same : s ≡ t.spacing = some_of s t.spacing e in
    let some = starts_some t.pieces r.starts in
    let one : 0 < n = omega (arith, h.1, some.0) in
    let first = copied_at t n ps h 0 one in (
      h.0,
      omega (arith, r.spacing_high),
      omega arith,
      omega (arith, h.1, r.few),
      ap (λ (p : Piece). p.ready) first ∙ some.1,
      λ k l. let e = copied_at t n ps h k l in omega (arith, ap (λ (p : Piece). p.ready) e, ap (λ (p : Piece). p.due) e, (ordered_at 0 t.spacing t.pieces r.ordered k (omega (arith, h.1))).0),
      λ k l. let e = copied_at t n ps h k l in omega (arith, ap (λ (p : Piece). p.due) e, (ordered_at 0 t.spacing t.pieces r.ordered k (omega (arith, h.1))).1, r.spacing_high),
      λ k l. let e = copied_at t n ps h k l in omega (arith, ap (λ (p : Piece). p.cap) e),
    )

pub copied_task : (o : Option task.Task) (s m n : ℕ) (ps : List Piece) → Some s ≡ spacing_told o → Some m ≡ total_told o → Copied o n ps → Some (record { spacing = s; total = m; pieces = map piece_of (take n ps) }) ≡ option_map told_task o
copied_task None s m n ps e f h = absurd (cc)
copied_task (Some t) s m n ps e f h =
    let a : s ≡ t.spacing = some_of s t.spacing e in
    let b : m ≡ told t.total = some_of m (told t.total) f in
    let q : map piece_of (take n ps) ≡ map told_piece t.pieces = ap (map piece_of) h.2 ∙ map_by piece_of copied_piece told_piece t.pieces none (λ i l. refl) in
    λ k. Some (record { spacing = a k; total = b k; pieces = q k })
