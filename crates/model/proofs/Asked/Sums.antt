-- The sum of told demands, task by task, against the demand of all.
use Rattle.std.proofs.Common.{◌≡◌, ℕ, zero, suc, ◌+◌, ◌<◌, ◌≤◌, List, [], ◌∷◌, length, take, Some, None, Option, unwrap_or, refl, add-one, arith}
use Rattle.std.proofs.lemmas.Bool.Decides.{nat_tests}
use Rattle.std.specs.List.{slice_get}
use Rattle.std.proofs.lemmas.List.{take_all}
use Rattle.model.specs.Task.{Task}
use Rattle.model.specs.Demand.{demand_of_all}
use Rattle.model.specs.Asked.{told, found, demand_told}
use Rattle.model.specs.Told.{told_demand_of_all}
use Rattle.model.proofs.Asked.Places.{found_in}

pub told_sum_none : (ks : List Task) (t : ℕ) → told_demand_of_all (take 0 ks) t ≡ 0
unfolding told_demand_of_all
told_sum_none ks t = refl

nth_more : (ks : List Task) (i t : ℕ) → t ≤ 1000000 → i < length ks → told_demand_of_all (take i ks) t + unwrap_or (demand_told (slice_get ks i) t) 0 ≡ told_demand_of_all (take (suc i) ks) t
unfolding told_demand_of_all
nth_more [] i t l h = absurd (omega arith)
nth_more (k ∷ ks) zero t l h = grind (arith, nat_tests)
nth_more (k ∷ ks) (suc i) t l h = omega (arith, nth_more ks i t l (omega arith))

pub told_sum_more : (ks : List Task) (i t n : ℕ) → t ≤ 1000000 → i < length ks → i < 32 → n ≡ told_demand_of_all (take i ks) t → n + unwrap_or (demand_told (found ks i) t) 0 ≡ told_demand_of_all (take (i + 1) ks) t
told_sum_more ks i t n l h low e = rw (e, found_in ks i low, add-one i) (nth_more ks i t l h)

pub told_high : (o : Option Task) (t : ℕ) → unwrap_or (demand_told o t) 0 ≤ 1000000000000000
told_high None t = omega arith
told_high (Some k) t = grind (arith, nat_tests)

pub sum_told : (ks : List Task) (t : ℕ) → told (told_demand_of_all ks t) ≡ told (demand_of_all ks t)
unfolding told_demand_of_all
sum_told [] t = refl
sum_told (k ∷ ks) t = omega (arith, sum_told ks t)

pub told_sum_all : (ks : List Task) (i t n : ℕ) → length ks ≤ i → n ≡ told_demand_of_all (take i ks) t → told n ≡ told (demand_of_all ks t)
told_sum_all ks i t n h e = rw (e, take_all i ks h) (sum_told ks t)
