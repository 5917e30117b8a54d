-- Tasks at rest.
use Rattle.std.proofs.Common.{◌≡◌, ℕ, suc, ◌<◌, ◌≤◌, List, [], ◌∷◌, map, length, get_or, take, None, sum_by, Option, sym, refl, ap, ◌∙◌, arith}
use Rattle.std.proofs.lemmas.List.{get_or-take, length-take-le}
use Rattle.model.specs.Machine as model
use Rattle.machine.specs.declared.entry.Entry.{Entry}
use Rattle.model.specs.Machine.{Pick}
use Rattle.machine.specs.Events.{finished_in, GoodEntry}
use Rattle.machine.specs.Views.{blank, piece_in, ran_of, left_of, pieces_of, task_of, progress_of, Resting}
use Rattle.machine.specs.Lines.{worth, tally, Holds, picks}
use Rattle.machine.proofs.Keys.{seen, seen_long, seen_at}

pub rest_good : (e : Entry) → Resting e → GoodEntry e
rest_good e r = (
  (omega (arith, ap piece_in r.0, e.task.some), omega (arith, ap ran_of r.0), omega (arith, ap finished_in r.0, r.2)),
  omega (arith, ap (λ o. model.since o 0) r.1),
)

pub rest_progress : (e : Entry) → Resting e → progress_of e ≡ model.at_rest
rest_progress e r = let p = r.0 in let q = r.1 in let b = r.2 in λ k. record { last = q k; left = left_of (pieces_of e.task) (p k); ran_now = ran_of (p k); ran_before = b k }

tally_none : (f : Pick → ℕ) (n : ℕ) (ks : List (Option ℕ)) → ((j : ℕ) → j < length ks → get_or ks j None ≡ None) → tally f n ks ≡ 0
tally_none f n [] h = refl
tally_none f n (k ∷ ks) h = omega (arith, ap (worth f n) (h 0 (omega arith)), tally_none f (suc n) ks (λ j l. h (suc j) (omega arith)))

-- an empty line holds no keys
pub holds_none : {X : Type 0} (pick : X → Pick) (len : ℕ) (items : List X) (key : Entry → Option ℕ) (count : ℕ) (es : List Entry) → count ≤ length es → len ≡ 0 → ((i : ℕ) → i < count → key (get_or es i blank) ≡ None) → Holds (picks pick len items) (seen key count es)
holds_none pick len items key count es fits e h f =
    ap (λ n. sum_by f (picks pick n items)) e ∙ sym (tally_none f 0 (seen key count es) (λ j l. let m : j < count = omega (arith, seen_long key count es fits) in seen_at key count es fits j None m ∙ h j m))

asleep_is : (xs : List Entry) → ((i : ℕ) → i < length xs → progress_of (get_or xs i blank) ≡ model.at_rest) → map progress_of xs ≡ model.asleep (map task_of xs)
asleep_is [] h = refl
asleep_is (x ∷ xs) h = λ k. h 0 (omega arith) k ∷ asleep_is xs (λ i l. h (suc i) (omega arith)) k

pub rest_asleep : (count : ℕ) (es : List Entry) → count ≤ length es → ((i : ℕ) → i < count → Resting (get_or es i blank)) → map progress_of (take count es) ≡ model.asleep (map task_of (take count es))
rest_asleep count es fits rest = asleep_is (take count es) (λ i l.
    let m : i < count = omega (arith, length-take-le count es fits) in
    ap progress_of (get_or-take count es i blank m) ∙ rest_progress (get_or es i blank) (rest i m))
