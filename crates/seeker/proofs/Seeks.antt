-- The steps of a seek, row by row.
use Rattle.std.proofs.Common.{◌≡◌, ℕ, ◌+◌, ◌<◌, ◌≤◌, Bool, List, [], ◌∷◌, ◌++◌, length, take, drop, Some, None, Err, Option, sym, ap, ◌∙◌, arith}
use Rattle.std.proofs.lemmas.List.{take-append-drop, length-take-le}
use Rattle.model.specs.declared.refusal.Refusal.{Refusal}
use Rattle.rows.specs.declared.bare.OpenRow.{OpenRow}
use Rattle.rows.specs.declared.bare.SettledRow.{SettledRow}
use Rattle.seeker.specs.Sought.{candidates, first_passing, Sought, go_on, sought, over}
use Rattle.seeker.specs.Refused.{ended}
use Rattle.seeker.specs.Steps.{if_kept, placed}

module _ (pass : List SettledRow → Bool) (offers : ℕ → ℕ → ℕ → ℕ → List ℕ) (os : List OpenRow) (entry : List SettledRow) where
  -- the first k places are settled, the others as they were, and the rows that are left give the whole
  abbrev pub Going : ℕ → List SettledRow → Type 0
  Going k places = (drop k places ≡ drop k entry) × (sought pass offers (drop k os) (take k places) ≡ sought pass offers os [])

  -- what is left in the places, and what the seek came to
  abbrev pub Ended : List SettledRow → Option ℕ → Type 0
  Ended places stuck = (stuck ≡ (sought pass offers os []).stuck) × (places ≡ over (sought pass offers os []).settled entry)

  ends : (k : ℕ) (places : List SettledRow) (stuck : Option ℕ) → k ≤ length places → drop k places ≡ drop k entry → sought pass offers os [] ≡ record { settled = take k places; stuck = stuck } → Ended places stuck
  ends k places stuck le h e = (
    sym (ap (λ (s : Sought). s.stuck) e),
    sym (take-append-drop k places)
        ∙ ap (λ (l : List SettledRow). take k places ++ l) (h ∙ ap (λ n. drop n entry) (sym (length-take-le k places le)))
        ∙ sym (ap (λ (s : Sought). over s.settled entry) e),
  )

  module _ (k : ℕ) (places : List SettledRow) (o : OpenRow) (here : drop k os ≡ o ∷ drop (k + 1) os) (in' : k < length places) (h : Going k places) where
    -- by the row kept for o
    abbrev go_at : Option SettledRow → Sought
    go_at f = go_on f (record { settled = take k places; stuck = Some o.name }) (λ r. sought pass offers (drop (k + 1) os) (take k places ++ r ∷ []))

    whole : (f : Option SettledRow) → first_passing pass (take k places) o (candidates offers o) ≡ f → sought pass offers os [] ≡ go_at f
    whole f p = sym h.1 ∙ ap (λ l. sought pass offers l (take k places)) here ∙ ap go_at p

    pub going_stuck : (after : List SettledRow) (e : Refusal) (f : Option SettledRow) → first_passing pass (take k places) o (candidates offers o) ≡ f → Err e ≡ if_kept o.name f → after ≡ placed f places k → (Err e ≡ ended (Some o.name)) × Ended after (Some o.name)
    going_stuck after e (Some r) p t h = let z : ◌≡◌ {A = ℕ} 0 1 = cc in absurd (omega arith)
    going_stuck after e None p t i = let r = ends k places (Some o.name) (omega arith) h.0 (whole None p) in (t, (r.0, i ∙ r.1))
