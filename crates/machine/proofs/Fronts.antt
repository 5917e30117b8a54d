-- The model's front and late piece, by the table's ready keys.
use Rattle.std.proofs.Common.{◌≡◌, ℕ, suc, ◌<◌, true, cond, leb, List, [], ◌∷◌, map, length, get_or, take, Some, None, Option, sym, refl, ap, ◌∙◌, subst, arith}
use Rattle.std.proofs.lemmas.List.{length-take-le, get_or-take}
use Rattle.std.proofs.lemmas.Bool.{cond-true, cond-false, ltb-true, lt-leb}
use Rattle.model.specs.Machine as model
use Rattle.machine.specs.declared.numbers.Numbers.{Numbers}
use Rattle.machine.specs.declared.entry.Phase.{Phase}
use Rattle.machine.specs.declared.entry.Phase.TheVariants.{Rest, Ready, Held}
use Rattle.machine.specs.declared.entry.Entry.{Entry}
use Rattle.machine.specs.declared.clock.Core.{Core}
use Rattle.machine.specs.Events.{GoodPhase, GoodEntry}
use Rattle.machine.specs.Keys.{ready_in, ready_key, timely_in, timely}
use Rattle.machine.specs.Views.{blank, piece_at, pieces_of, left_of, progress_of}
use Rattle.machine.specs.Calls.{state_of}
use Rattle.machine.proofs.Model.{left_is}

-- the model's test of readiness is the table's
ready_in_is : (now : ℕ) (n : Numbers) (last : Option ℕ) (before : ℕ) (f : Phase) → GoodPhase n before f → timely_in now n last f ≡ true
    → model.due_if (λ r d. leb r now) last (left_of (pieces_of n) f) ≡ ready_in n last f
ready_in_is now n last b Rest g t = refl
ready_in_is now n last b (Ready p r) g t = ap (model.due_if (λ r d. leb r now) last) (left_is n p g.0) ∙ cond-true _ _ _ t
ready_in_is now n last b (Held p) g t = ap (model.due_if (λ r d. leb r now) last) (left_is n p g.0) ∙ cond-false _ _ _ (lt-leb (model.since last (piece_at n p).ready) now (ltb-true now (model.since last (piece_at n p).ready) t))

pub ready_is : (now : ℕ) (e : Entry) → GoodEntry e → timely now e ≡ true → model.ready_due now (progress_of e) ≡ ready_key e
ready_is now e g t = ready_in_is now e.task e.last e.before e.phase g.0 t

-- of the keys, those that have come
abbrev pub come : ℕ → Option ℕ → Option ℕ
come now None = None
come now (Some a) = cond (leb a now) (Some a) None

since_less : (last : Option ℕ) (a b : ℕ) → a < b → model.since last a < model.since last b
since_less None a b l = l
since_less (Some w) a b l = omega arith

late_in_is : (now : ℕ) (n : Numbers) (last : Option ℕ) (before : ℕ) (f : Phase) → GoodPhase n before f → timely_in now n last f ≡ true
    → model.due_if (λ r d. leb d now) last (left_of (pieces_of n) f) ≡ come now (ready_in n last f)
late_in_is now n last b Rest g t = refl
late_in_is now n last b (Ready p r) g t = ap (model.due_if (λ r d. leb d now) last) (left_is n p g.0)
late_in_is now n last b (Held p) g t = ap (model.due_if (λ r d. leb d now) last) (left_is n p g.0) ∙ cond-false _ _ _ (lt-leb (model.since last (piece_at n p).due) now
    (omega (arith, ltb-true now (model.since last (piece_at n p).ready) t, since_less last (piece_at n p).ready (piece_at n p).due (n.rises p g.0))))

pub late_is : (now : ℕ) (e : Entry) → GoodEntry e → timely now e ≡ true → model.late_due now (progress_of e) ≡ come now (ready_key e)
late_is now e g t = late_in_is now e.task e.last e.before e.phase g.0 t

-- two maps after one another
pub map_by : {X Y Z : Type 0} (f : Y → Z) (g : X → Y) (h : X → Z) (xs : List X) (d : X) → ((i : ℕ) → i < length xs → f (g (get_or xs i d)) ≡ h (get_or xs i d)) → map f (map g xs) ≡ map h xs
map_by f g h [] d e = refl
map_by {Z = Z} f g h (x ∷ xs) d e = λ k. e 0 (omega arith) k ∷ map_by f g h xs d (λ i l. e (suc i) (omega arith)) k

module _ (c : Core) where
  entry_at : (i : ℕ) → i < length (take c.table.count c.table.entries) → (i < c.table.count) × (get_or (take c.table.count c.table.entries) i blank ≡ get_or c.table.entries i blank)
  entry_at i l =
      let n : i < c.table.count = omega (arith, length-take-le c.table.count c.table.entries (omega (arith, c.table.few, c.table.long))) in
      (n, get_or-take c.table.count c.table.entries i blank n)

  pub front_keys : model.front (state_of c) ≡ model.least (map ready_key (take c.table.count c.table.entries))
  front_keys = ap model.least (map_by (model.ready_due c.now) progress_of ready_key (take c.table.count c.table.entries) blank
      (λ i l. let p = entry_at i l in subst (λ (e : Entry). model.ready_due c.now (progress_of e) ≡ ready_key e) (sym p.1) (ready_is c.now (get_or c.table.entries i blank) (c.table.good i p.0) (c.timed i p.0))))

  pub late_keys : model.late (state_of c) ≡ model.least (map (λ e. come c.now (ready_key e)) (take c.table.count c.table.entries))
  late_keys = ap model.least (map_by (model.late_due c.now) progress_of (λ e. come c.now (ready_key e)) (take c.table.count c.table.entries) blank
      (λ i l. let p = entry_at i l in subst (λ (e : Entry). model.late_due c.now (progress_of e) ≡ come c.now (ready_key e)) (sym p.1) (late_is c.now (get_or c.table.entries i blank) (c.table.good i p.0) (c.timed i p.0))))
