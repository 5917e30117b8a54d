-- A seek that does not stop settles every row, and each settled row keeps the rules.
use Rattle.std.proofs.Common.{◌≡◌, ℕ, ◌+◌, ◌-◌, Bool, List, [], ◌∷◌, ◌++◌, length, take, drop, Some, None, Ok, Option, sym, refl, ap, ◌∙◌, subst, arith}
use Rattle.std.specs.List.{AllByRecursion}
use Rattle.std.proofs.ByRecursion.{All-push}
use Rattle.std.proofs.lemmas.List.{length_push, take_at}
use Rattle.std.proofs.lemmas.Bool.{cond_both}
use Rattle.model.specs.declared.refusal.Refusal.{Refusal}
use Rattle.model.specs.Rows.{From}
use Rattle.model.specs.Splits.{falling_offers}
use Rattle.model.specs.Task.{Task}
use Rattle.model.specs.Verdict.{Verdict}
use Rattle.model.proofs.Splits.{falling_lawful}
use Rattle.rows.specs.Bare.{open_breaks, settled_breaks, with_split}
use Rattle.rows.specs.declared.bare.OpenRow.{OpenRow}
use Rattle.rows.specs.declared.bare.SettledRow.{SettledRow}
use Rattle.seeker.specs.Queued.{queued}
use Rattle.seeker.specs.Refused.{refused, answer, leaves, ended, seek_answers, seek_leaves}
use Rattle.seeker.specs.Sought.{candidates, passes, first_passing, Sought, go_on, sought}
use Rattle.seeker.proofs.Begins.{begun}
use Rattle.seeker.proofs.Fits.{each_keeps, open_keeps, split_keeps}
use Rattle.seeker.proofs.Queues.{length_queued, all_queued}
use Rattle.settling.specs.Settled.{settled_lines, printed, settling, sought_text}

abbrev pub Keeps : SettledRow → Type 0
Keeps r = settled_breaks r ≡ None

abbrev pub OpenKeeps : OpenRow → Type 0
OpenKeeps o = open_breaks o ≡ None

abbrev Chosen : Option SettledRow → Type 0
Chosen None = Unit {0}
Chosen (Some r) = Keeps r

module _ (pass : List SettledRow → Bool) where
  chosen : (done : List SettledRow) (o : OpenRow) (xs : List ℕ) → OpenKeeps o → AllByRecursion (λ x. From 1 x (o.spacing - o.wait - 1)) xs → Chosen (first_passing pass done o xs)
  chosen done o [] h a = tt
  chosen done o (x ∷ xs) h a =
      cond_both (pass (done ++ with_split o x ∷ [])) (Some (with_split o x)) (first_passing pass done o xs) Chosen
      (λ _. split_keeps o.spacing o.first o.wait o.second x h a.0)
      (λ _. chosen done o xs h a.1)

  inside : (o : OpenRow) → OpenKeeps o → AllByRecursion (λ x. From 1 x (o.spacing - o.wait - 1)) (candidates falling_offers o)
  inside o h = (falling_lawful o.spacing o.first o.wait o.second (open_keeps o.spacing o.first o.wait o.second h)).1

  abbrev pub Comes : ℕ → Sought → Type 0
  Comes n s = AllByRecursion Keeps s.settled × (s.stuck ≡ None → length s.settled ≡ n)

  pub comes : (os : List OpenRow) (done : List SettledRow) (n : ℕ) → AllByRecursion OpenKeeps os → AllByRecursion Keeps done → length done + length os ≡ n → Comes n (sought pass falling_offers os done)
  comes [] done n ho hd e = (hd, λ _. omega arith)
  comes (o ∷ os) done n ho hd e =
      go (first_passing pass done o (candidates falling_offers o)) (chosen done o (candidates falling_offers o) ho.0 (inside o ho.0))
      (λ r k. comes os (done ++ r ∷ []) n ho.1 (All-push Keeps done r hd k) (omega (arith, length_push done r)))
    where
      go : (f : Option SettledRow) → Chosen f → ((r : SettledRow) → Keeps r → Comes n (sought pass falling_offers os (done ++ r ∷ [])))
          → Comes n (go_on f (record { settled = done; stuck = Some o.name }) (λ r. sought pass falling_offers os (done ++ r ∷ [])))
      go None c k = (hd, λ h. let z : ◌≡◌ {A = ℕ} 0 1 = cc in absurd (omega arith))
      go (Some r) c k = k r c

not_stuck : (s : Option ℕ) (u : Unit {0}) → Ok u ≡ ended s → s ≡ None
not_stuck None u e = refl
not_stuck (Some n) u e = let z : ◌≡◌ {A = ℕ} 0 1 = cc in absurd (omega arith)

-- what is left in the first places by a seek that is accepted
module _ (rest : List Task) (rows : List OpenRow) (places : List SettledRow) (u : Unit {0}) (ok : Ok u ≡ seek_answers rest falling_offers rows places) where
  abbrev s : Sought
  s = settling rest rows

  unrefused : (f : Option Refusal) → Ok u ≡ answer f s → (f ≡ None) × (s.stuck ≡ None)
  unrefused None e = (refl, not_stuck s.stuck u e)
  unrefused (Some x) e = let z : ◌≡◌ {A = ℕ} 0 1 = cc in absurd (omega arith)

  began : (refused rest rows (length places) ≡ None) × (s.stuck ≡ None)
  began = unrefused (refused rest rows (length places)) ok

  came : AllByRecursion Keeps s.settled × (s.stuck ≡ None → length s.settled ≡ length rows)
  came = comes (passes rest) (queued rows) [] (length rows) (all_queued OpenKeeps rows (each_keeps open_breaks rows (begun rest rows (length places) began.0).0.lawful)) tt (omega (arith, length_queued rows))

  first_places : (n : ℕ) → n ≡ length rows → take n (seek_leaves rest falling_offers rows places) ≡ (settling rest rows).settled
  first_places n e =
      ap (λ f. take n (leaves f places s)) began.0
      ∙ take_at s.settled (drop (length s.settled) places) n (came.1 began.1 ∙ sym e)

  pub all_keep : (n : ℕ) → n ≡ length rows → AllByRecursion Keeps (take n (seek_leaves rest falling_offers rows places))
  all_keep n e = subst (AllByRecursion Keeps) (sym (first_places n e)) came.0

  pub shown : (n : ℕ) → n ≡ length rows → length places ≡ 32 → settled_lines (take n (seek_leaves rest falling_offers rows places)) ≡ sought_text rest rows
  shown n e h =
      ap settled_lines (first_places n e)
      ∙ ap (λ (v : Verdict). printed v s.settled) (ok ∙ ap (λ n. answer (refused rest rows n) s) h)
