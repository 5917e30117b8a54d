-- Rows that break no rule, and the round of such rows beside a rest.
use Rattle.std.proofs.Common.{◌≡◌, ℕ, ◌+◌, ◌-◌, List, [], ◌∷◌, ◌++◌, map, Some, None, Option, sym, refl, ap, ◌∙◌, arith}
use Rattle.std.specs.List.{AllByRecursion}
use Rattle.std.proofs.ByRecursion.{All-append, All-map, All-weaker}
use Rattle.std.proofs.lemmas.List.{append_assoc, append-nil}
use Rattle.std.proofs.lemmas.Bool.Decides.{nat_tests}
use Rattle.model.specs.declared.refusal.Refusal.{Refusal}
use Rattle.model.specs.Round.{lcm, round, round_told}
use Rattle.model.specs.Rows.{From, LawfulOpen}
use Rattle.model.specs.Rules.{either, first_fault, open_fault, settled_fault}
use Rattle.model.specs.Task.{Task, Lawful, AllLawful}
use Rattle.model.proofs.Demand.Rows.{paired_lawful}
use Rattle.model.proofs.Round.Spacings.{spaced_lawful, round_push}
use Rattle.model.proofs.Round.Told.{some_told, none_first}
use Rattle.model.proofs.Rules.Keeps.{settled_keeps}
use Rattle.rows.specs.Bare.{open_breaks, settled_breaks, settled_own, with_split}
use Rattle.rows.specs.declared.bare.OpenRow.{OpenRow}
use Rattle.rows.specs.declared.bare.SettledRow.{SettledRow}
use Rattle.seeker.specs.Refused.{split_somewhere, round_of_all}

-- a list of rows breaks no rule exactly when none of them does
pub each_keeps : {R : Type 0} (fault : R → Option Refusal) (rows : List R) → first_fault fault rows ≡ None → AllByRecursion (λ r. fault r ≡ None) rows
each_keeps fault [] e = tt
each_keeps fault (r ∷ rows) e = go (fault r) refl e (each_keeps fault rows)
  where
    go : (f : Option Refusal) → fault r ≡ f → either f (first_fault fault rows) ≡ None → (first_fault fault rows ≡ None → AllByRecursion (λ r. fault r ≡ None) rows) → AllByRecursion (λ r. fault r ≡ None) (r ∷ rows)
    go None h k rest = (h, rest k)
    go (Some x) h k rest = let z : ◌≡◌ {A = ℕ} 0 1 = cc in absurd (omega arith)

pub none_breaks : {R : Type 0} (fault : R → Option Refusal) (rows : List R) → AllByRecursion (λ r. fault r ≡ None) rows → first_fault fault rows ≡ None
none_breaks fault [] h = refl
none_breaks fault (r ∷ rows) h = ap (λ f. either f (first_fault fault rows)) h.0 ∙ none_breaks fault rows h.1

pub open_keeps : (T C1 S C2 : ℕ) → open_fault T C1 S C2 ≡ None → LawfulOpen T C1 S C2
open_keeps T C1 S C2 e = grind (arith, nat_tests)

pub split_keeps : (T C1 S C2 D1 : ℕ) → open_fault T C1 S C2 ≡ None → From 1 D1 (T - S - 1) → settled_fault T C1 S C2 D1 ≡ None
split_keeps T C1 S C2 D1 e h = grind (arith, nat_tests)

pub own_lawful : (r : SettledRow) → settled_breaks r ≡ None → Lawful (settled_own r)
own_lawful r e = paired_lawful r.spacing r.wait r.split r.first r.second (r.first + r.second) (settled_keeps r.spacing r.first r.wait r.second r.split e)

somewhere_lawful : (o : OpenRow) → open_breaks o ≡ None → Lawful (split_somewhere o)
somewhere_lawful o e = let l = open_keeps o.spacing o.first o.wait o.second e in own_lawful (with_split o 1) (split_keeps o.spacing o.first o.wait o.second 1 e (omega arith, omega arith))

pub rows_lawful : (os : List OpenRow) → AllByRecursion (λ o. open_breaks o ≡ None) os → AllLawful (map split_somewhere os)
rows_lawful os h = All-map Lawful split_somewhere os (All-weaker (λ o. open_breaks o ≡ None) (λ o. Lawful (split_somewhere o)) somewhere_lawful os h)

-- the round worked out row by row, none once it is above 100,000
abbrev pub join_round : Option ℕ → List OpenRow → Option ℕ
join_round None os = None
join_round (Some n) [] = Some n
join_round (Some n) (o ∷ os) = join_round (round_told (lcm n o.spacing)) os

joined : (os : List OpenRow) (ks : List Task) → AllLawful ks → AllByRecursion (λ o. open_breaks o ≡ None) os → join_round (round_told (round ks)) os ≡ round_told (round (ks ++ map split_somewhere os))
joined [] ks lk lo = go (round_told (round ks)) refl
  where
    go : (f : Option ℕ) → round_told (round ks) ≡ f → join_round f [] ≡ round_told (round (ks ++ []))
    go None e = none_first ks [] lk tt (sym e)
    go (Some n) e = sym e ∙ ap (λ l. round_told (round l)) (sym (append-nil ks))
joined (o ∷ os) ks lk lo = go (round_told (round ks)) refl (joined os (ks ++ split_somewhere o ∷ []) (All-append Lawful ks (split_somewhere o ∷ []) lk (somewhere_lawful o lo.0, tt)) lo.1)
  where
    go : (f : Option ℕ) → round_told (round ks) ≡ f → join_round (round_told (round (ks ++ split_somewhere o ∷ []))) os ≡ round_told (round ((ks ++ split_somewhere o ∷ []) ++ map split_somewhere os))
        → join_round f (o ∷ os) ≡ round_told (round (ks ++ map split_somewhere (o ∷ os)))
    go None e rest = none_first ks (map split_somewhere (o ∷ os)) lk (rows_lawful (o ∷ os) lo) (sym e)
    go (Some n) e rest =
        let is : lcm n o.spacing ≡ round (ks ++ split_somewhere o ∷ []) = ap (λ m. lcm m o.spacing) (some_told n (round ks) (sym e)).0 ∙ sym (round_push ks (split_somewhere o) (spaced_lawful ks lk) (somewhere_lawful o lo.0).spacing_low) in
        ap (λ m. join_round (round_told m) os) is ∙ rest ∙ ap (λ l. round_told (round l)) (append_assoc ks (split_somewhere o ∷ []) (map split_somewhere os))

pub round_joined : (ks : List Task) (os : List OpenRow) → AllLawful ks → first_fault open_breaks os ≡ None → join_round (round_told (round ks)) os ≡ round_told (round_of_all ks os)
round_joined ks os l e = joined os ks l (each_keeps open_breaks os e)
