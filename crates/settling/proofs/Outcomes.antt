-- Every answer is of one of the kinds.
use Rattle.std.proofs.Common.{◌≡◌, ℕ, ◌+◌, Bool, true, false, leb, List, [], ◌∷◌, map, length, drop, Some, None, Option, sym, refl, ap, ◌∙◌, subst, inl, inr, arith}
use Rattle.std.specs.List.{AllByRecursion}
use Rattle.std.proofs.ByRecursion.{All-append, All-map, All-weaker}
use Rattle.std.proofs.lemmas.List.{take_at}
use Rattle.std.proofs.lemmas.Bool.{le-leb, leb-true}
use Rattle.model.specs.declared.refusal.Refusal.{Refusal}
use Rattle.model.specs.declared.refusal.Refusal.TheVariants.{TooManyTasks, NoPlace, NoRound, Overloaded}
use Rattle.model.specs.Rules.{unless, either, first_fault}
use Rattle.model.specs.Splits.{falling_offers}
use Rattle.model.specs.Task.{Task, Lawful, AllLawful}
use Rattle.model.specs.Verdict.{accepted, verdict}
use Rattle.model.proofs.Demand.Rows.{plain_lawful, paired_lawful}
use Rattle.model.proofs.Rules.Keeps.{plain_keeps, bounded_keeps}
use Rattle.model.proofs.Splits.{falling_lawful}
use Rattle.rows.specs.Bare.{plain_breaks, plain_own, open_breaks, bounded_breaks, bounded_own}
use Rattle.rows.specs.declared.bare.OpenRow.{OpenRow}
use Rattle.rows.specs.declared.bare.PlainRow.{PlainRow}
use Rattle.rows.specs.declared.bare.BoundedRow.{BoundedRow}
use Rattle.rows.specs.declared.bare.SettledRow.{SettledRow}
use Rattle.seeker.specs.Law.{AcceptedOrOverloaded}
use Rattle.seeker.specs.Queued.{queued}
use Rattle.seeker.specs.Refused.{refusal_of, round_of_all, unready, refused, answer, ended}
use Rattle.seeker.specs.Sought.{beside, passes, Sought, over}
use Rattle.seeker.proofs.Begins.{begun}
use Rattle.seeker.proofs.Fits.{each_keeps, none_breaks}
use Rattle.seeker.proofs.Lawful.{rest_decided, law, all_pass}
use Rattle.seeker.proofs.Queues.{length_queued, all_queued}
use Rattle.frames.specs.declared.fault.Fault.{Fault}
use Rattle.frames.specs.declared.frame.TextRow.{TextRow}
use Rattle.frames.specs.declared.frame.TextRow.TheVariants.{Plain, Open, Bounded}
use Rattle.frames.specs.Laws as frames
use Rattle.frames.specs.Texts.{plain_rows, open_rows, bounded_rows, text_read}
use Rattle.settling.specs.Law.{Answer, settles, sticks, misreads, overloads, many, far}
use Rattle.settling.specs.Settled.{printed, rest_of, settling, sought_text, outcome_text, tables, settled_text}
use Rattle.settling.proofs.Settles.{Keeps, OpenKeeps, comes}
use Rattle.settling.proofs.Tables.{plains_keep, boundeds_keep}

opens_keep : (rows : List TextRow) → AllByRecursion frames.Lawful rows → AllByRecursion OpenKeeps (open_rows rows)
opens_keep [] a = tt
opens_keep (Plain r ∷ rows) a = opens_keep rows a.1
opens_keep (Open r ∷ rows) a = (a.0.1, opens_keep rows a.1)
opens_keep (Bounded r ∷ rows) a = opens_keep rows a.1

plain_fine : (r : PlainRow) → plain_breaks r ≡ None → Lawful (plain_own r)
plain_fine r h = plain_lawful r.spacing r.due r.cost (plain_keeps r.spacing r.due r.cost h)

bounded_fine : (r : BoundedRow) → bounded_breaks r ≡ None → Lawful (bounded_own r)
bounded_fine r h = paired_lawful r.spacing r.wait r.split r.first r.second r.total (bounded_keeps r.spacing r.first r.second r.total r.wait r.split h)

rest_lawful : (rows : List TextRow) → AllByRecursion frames.Lawful rows → AllLawful (rest_of (plain_rows rows) (bounded_rows rows))
rest_lawful rows a =
    All-append Lawful (map plain_own (plain_rows rows)) (map bounded_own (bounded_rows rows))
    (All-map Lawful plain_own (plain_rows rows) (All-weaker (λ r. plain_breaks r ≡ None) (λ r. Lawful (plain_own r)) plain_fine (plain_rows rows) (plains_keep rows a)))
    (All-map Lawful bounded_own (bounded_rows rows) (All-weaker (λ r. bounded_breaks r ≡ None) (λ r. Lawful (bounded_own r)) bounded_fine (bounded_rows rows) (boundeds_keep rows a)))

-- what is settled by a seek that begins and does not stop
module _ (rest : List Task) (lawful : AllLawful rest) (rows : List OpenRow) (h : refused rest rows 32 ≡ None) (k : (settling rest rows).stuck ≡ None) where
  abbrev s : Sought
  s = settling rest rows

  came : AllByRecursion Keeps s.settled × (s.stuck ≡ None → length s.settled ≡ length rows)
  came = comes (passes rest) (queued rows) [] (length rows) (all_queued OpenKeeps rows (each_keeps open_breaks rows (begun rest rows 32 h).0.lawful)) tt (omega (arith, length_queued rows))

  accepts : verdict (beside rest s.settled) ≡ accepted
  accepts =
      ap (λ (rs : List SettledRow). verdict (beside rest rs)) (sym (take_at s.settled (drop (length s.settled) []) (length rows) (came.1 k)))
      ∙ all_pass rest lawful rows 32 falling_offers falling_lawful h [] (over s.settled []) (ended s.stuck)
      (law rest lawful rows 32 falling_offers falling_lawful h [] (over s.settled []) (ended s.stuck) refl refl) (ap ended k)

module _ (text : List ℕ) (rows : List TextRow) (read : text_read tables text ≡ frames.accepted rows) (a : AllByRecursion frames.Lawful rows) where
  abbrev rest : List Task
  rest = rest_of (plain_rows rows) (bounded_rows rows)

  abbrev opens : List OpenRow
  opens = open_rows rows

  -- the answer by a refusal, and by where the seek stopped
  abbrev by : Option Refusal → List ℕ
  by f = printed (answer f (settling rest opens)) (settling rest opens).settled

  by_stuck : refused rest opens 32 ≡ None → (n : Option ℕ) → (settling rest opens).stuck ≡ n → Answer text (printed (ended n) (settling rest opens).settled)
  by_stuck h None e = let l = rest_lawful rows a in settles rows (settling rest opens).settled read ((came rest l opens h e).1 e) (came rest l opens h e).0 (accepts rest l opens h e) refl
  by_stuck h (Some name) e = sticks name refl

  by_verdict : unready rest opens 32 ≡ None → (v : AcceptedOrOverloaded (verdict rest)) → Answer text (sought_text rest opens)
  by_verdict u (inl v) =
      let h : refused rest opens 32 ≡ None = λ i. either (u i) (refusal_of (v i)) in
      subst (Answer text) (sym (ap by h)) (by_stuck h (settling rest opens).stuck refl)
  by_verdict u (inr v) =
      let h : refused rest opens 32 ≡ Some (Overloaded v.0) = λ i. either (u i) (refusal_of (v.1 i)) in
      overloads v.0 (ap by h)

  kept : first_fault open_breaks opens ≡ None
  kept = none_breaks open_breaks opens (opens_keep rows a)

  by_tests : (few near : Bool) → leb (length rest + length opens) 32 ≡ few → leb (round_of_all rest opens) 100000 ≡ near → Answer text (sought_text rest opens)
  by_tests false near f n =
      many (ap (λ (b : Bool). by (either (unless TooManyTasks b (unless NoPlace (leb (length opens) 32) (either (first_fault open_breaks opens) (unless NoRound (leb (round_of_all rest opens) 100000) None)))) (refusal_of (verdict rest)))) f)
  by_tests true false f n =
      let room = le-leb (length opens) 32 (omega (arith, leb-true (length rest + length opens) 32 f)) in
      far (λ i. by (either (unless TooManyTasks (f i) (unless NoPlace (room i) (either (kept i) (unless NoRound (n i) None)))) (refusal_of (verdict rest))))
  by_tests true true f n =
      let room = le-leb (length opens) 32 (omega (arith, leb-true (length rest + length opens) 32 f)) in
      let u : unready rest opens 32 ≡ None = λ i. unless TooManyTasks (f i) (unless NoPlace (room i) (either (kept i) (unless NoRound (n i) None))) in
      by_verdict u (rest_decided rest (rest_lawful rows a) opens 32 u)

  of_rows : Answer text (sought_text rest opens)
  of_rows = by_tests (leb (length rest + length opens) 32) (leb (round_of_all rest opens) 100000) refl refl

pub of_text : frames.AcceptedTextsAreWrittenRows → (text : List ℕ) → Answer text (settled_text text)
of_text reads text = go (text_read tables text).fault refl
  where
    go : (f : Option Fault) → (text_read tables text).fault ≡ f → Answer text (outcome_text (record { rows = (text_read tables text).rows; fault = f }))
    go None e =
        let is : text_read tables text ≡ frames.accepted (text_read tables text).rows = ap (λ (f : Option Fault). record { rows = (text_read tables text).rows; fault = f }) e in
        of_rows text (text_read tables text).rows is ((reads tables (text_read tables text).rows text).0 is).1
    go (Some x) e = misreads x refl
