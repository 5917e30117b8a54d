-- The core's view, by its entries.
use Rattle.std.proofs.Common.{◌≡◌, ℕ, ◌+◌, ◌<◌, false, ◌∷◌, length, take, drop, refl, ap, ◌∙◌, arith}
use Rattle.std.proofs.lemmas.List.{get_or-map, length-map, length-take-le, get_or-take, drop_more}
use Rattle.model.specs.Task as task
use Rattle.model.specs.Machine as model
use Rattle.machine.specs.declared.numbers.Numbers.{Numbers}
use Rattle.machine.specs.declared.entry.Phase.{Phase}
use Rattle.machine.specs.declared.entry.Phase.TheVariants.{Rest, Ready, Held}
use Rattle.machine.specs.declared.entry.Event.TheVariants.{Wake}
use Rattle.machine.specs.declared.entry.Entry.{Entry}
use Rattle.machine.specs.Pieces.{no_piece}
use Rattle.machine.specs.Events.{moved_in, moved, GoodPhase, GoodEntry}
use Rattle.machine.specs.Views.{piece_at, piece_of, pieces_of, task_of, left_of, progress_of, works}

-- an entry's progress

pub pieces_long : (n : Numbers) → length (pieces_of n) ≡ n.count
pieces_long n = length-map (take n.count n.pieces) piece_of ∙ length-take-le n.count n.pieces (omega (arith, n.few, n.long))

pub left_is : (n : Numbers) (p : ℕ) → p < n.count → drop p (pieces_of n) ≡ piece_of (piece_at n p) ∷ drop (p + 1) (pieces_of n)
left_is n p l =
    drop_more (pieces_of n) p (piece_of no_piece) (omega (arith, pieces_long n))
    ∙ ap (λ (q : task.Piece). q ∷ drop (p + 1) (pieces_of n)) (get_or-map piece_of (take n.count n.pieces) p no_piece (piece_of no_piece) (omega (arith, length-take-le n.count n.pieces (omega (arith, n.few, n.long)))) ∙ ap piece_of (get_or-take n.count n.pieces p no_piece l))

open_in : (n : Numbers) (f : Phase) (before : ℕ) → GoodPhase n before f → model.is_open (left_of (pieces_of n) f) ≡ works f
open_in n Rest b g = refl
open_in n (Ready p r) b g = ap model.is_open (left_is n p g.0)
open_in n (Held p) b g = ap model.is_open (left_is n p g.0)

pub open_is : (e : Entry) → GoodEntry e → model.is_open (progress_of e).left ≡ works e.phase
open_is e g = open_in e.task e.phase e.before g.0

pub rests : (f : Phase) → works f ≡ false → f ≡ Rest
rests Rest e = refl
rests (Ready p r) e = absurd (cc)
rests (Held p) e = absurd (cc)

-- a wake

pub woken_progress : (e : Entry) (now : ℕ) → e.phase ≡ Rest → progress_of (moved e (Wake now)) ≡ model.started (task_of e) now
woken_progress e now q = ap (λ p. progress_of (moved_in e p (Wake now))) q

pub woken_task : (e : Entry) (now : ℕ) → e.phase ≡ Rest → task_of (moved e (Wake now)) ≡ task_of e
woken_task e now q = ap (λ p. task_of (moved_in e p (Wake now))) q
