-- The verdict and the machine agree.
use Rattle.std.proofs.Common.{◌≡◌, ℕ, ◌*◌, List, map, sym, ap, ◌∙◌, arith}
use Rattle.std.proofs.lemmas.List.{length-map}
use Rattle.std.specs.List.{AllByRecursion}
use Rattle.model.specs.Task.{Task, AllLawful}
use Rattle.model.specs.Settled.{Settled, LawfulSettled, Even, equally, Order, joined}
use Rattle.model.specs.Slow.{slow, slowed}
use Rattle.model.specs.Verdict.{Verdict, accepted, overloaded, verdict_number, verdict}
use Rattle.model.specs.Promise.{FirstExceeded, Agreement}
use Rattle.model.proofs.Demand.Laws.{from_one}
use Rattle.model.proofs.Demand.Slow.{all_slow, round_slow, slowed_lawful}
use Rattle.model.proofs.Demand.Equal.{all_twice, twice_length, twice_round, joined_twice, joined_lawful}
use Rattle.model.proofs.Verdict.Means.{verdict_many, verdict_far, overloaded_means, many_means, far_means, accepted_means, accepted_fits, fits_accepted}
use Rattle.model.proofs.Safe.Holds.{holds}
use Rattle.model.proofs.Overload.Misses.{can_miss}

pub first_exceeded : (ks : List Task) → AllLawful ks → (t : ℕ) → verdict ks ≡ overloaded t → FirstExceeded ks t
first_exceeded ks l t e = let m = overloaded_means ks t e in record { exceeded = m.exceeded; none_before = from_one ks l t m.none_before }

pub equal_splits_pass : (o : Order) (rows : List Settled) (others : List Task) → AllByRecursion LawfulSettled rows → AllByRecursion Even rows → AllLawful others → verdict (slowed 2 (joined o rows others)) ≡ accepted → verdict (joined o (map equally rows) others) ≡ accepted
equal_splits_pass o rows others lr even lo e =
    let qs = joined o rows others in
    let ks = joined o (map equally rows) others in
    let a = joined_twice o rows others lr even lo in
    let l = slowed_lawful 2 (omega arith) qs (joined_lawful o rows others lr lo) in
    let m = accepted_means (slowed 2 qs) e in
    fits_accepted ks
    (omega (arith, m.few, length-map qs (slow 2), twice_length ks qs a))
    (omega (arith, m.near, round_slow 2 qs, twice_round ks qs a))
    (λ t. omega (arith, all_twice ks qs a t, all_slow 2 qs (2 * t), accepted_fits (slowed 2 qs) l e (2 * t)))

pub agreement : (ks : List Task) → AllLawful ks → Agreement ks (verdict ks)
agreement ks l = record {
  accepted_holds = λ e. holds ks l (accepted_fits ks l e);
  overloaded_first = first_exceeded ks l;
  overloaded_misses = λ t e. let m = overloaded_means ks t e in can_miss ks t l m.in_range m.exceeded;
  half_speed = λ o rows others lr even lo is e. equal_splits_pass o rows others lr even lo (ap verdict (sym is) ∙ e);
  too_many_when = (many_means ks, λ h. ap verdict_number (verdict_many ks h));
  no_round_when = (far_means ks, λ h. ap verdict_number (verdict_far ks h.0 h.1));
}

pub agreed : (ks : List Task) → AllLawful ks → (v : Verdict) → v ≡ verdict ks → Agreement ks v
agreed ks l v e = rw e (agreement ks l)
