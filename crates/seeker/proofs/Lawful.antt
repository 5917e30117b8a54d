-- The law of a seek.
use Rattle.std.proofs.Common.{◌≡◌, ℕ, suc, ◌+◌, ◌-◌, ◌<◌, ◌≤◌, Bool, cond, List, [], ◌∷◌, ◌++◌, map, length, take, is_ok, Some, None, Option, sym, refl, ap, ◌∙◌, subst, inl, inr, arith}
use Prim.Native.Nat.{◌∣◌}
use native.Mathlib.Nat.{le_of_dvd}
use Rattle.std.specs.List.{AllByRecursion}
use Rattle.std.proofs.ByRecursion.{All-append, All-map, All-push, All-weaker}
use Rattle.std.proofs.lemmas.List.{append_assoc, append-nil, length-append, length-map, length_push, take_at}
use Rattle.std.proofs.lemmas.Bool.{le-leb}
use Rattle.model.specs.Round.{round, Common}
use Rattle.model.specs.Rows.{From, LawfulOpen}
use Rattle.model.specs.Rules.{unless, first_fault, table_fault}
use Rattle.model.specs.Splits.{LawfulOffers}
use Rattle.model.specs.Task.{Task, Lawful, AllLawful}
use Rattle.model.specs.Verdict.{Verdict, accepted, verdict}
use Rattle.model.specs.declared.refusal.Refusal.TheVariants.{TooManyRows}
use Rattle.model.proofs.Round.Spacings.{spaced_lawful, round_pos, round_common, round_least}
use Rattle.model.proofs.Verdict.Means.{Means, fits, exceeds, many, far, means}
use Rattle.rows.specs.Bare.{open_breaks, settled_breaks, settled_own, with_split}
use Rattle.rows.specs.declared.bare.OpenRow.{OpenRow}
use Rattle.rows.specs.declared.bare.SettledRow.{SettledRow}
use Rattle.seeker.specs.Judged.{if_table, judged}
use Rattle.seeker.specs.Law.{IsOverloaded, AcceptedOrOverloaded, verdict_at, NonePasses, Kept, Settles, Law}
use Rattle.seeker.specs.Queued.{queued}
use Rattle.seeker.specs.Refused.{split_somewhere, round_of_all, unready, refused, ended}
use Rattle.seeker.specs.Sought.{candidates, beside, passes, first_passing, Sought, go_on, sought, over}
use Rattle.seeker.proofs.Begins.{Ready, ready, begun}
use Rattle.seeker.proofs.Fits.{each_keeps, none_breaks, open_keeps, split_keeps, own_lawful, rows_lawful}
use Rattle.seeker.proofs.Queues.{in_order, in_order_long, length_queued, all_queued}

all_parts : {X : Type 0} (P : X → Type 0) (xs ys : List X) → AllByRecursion P (xs ++ ys) → AllByRecursion P xs × AllByRecursion P ys
all_parts P [] ys h = (tt, h)
all_parts P (x ∷ xs) ys h = let r = all_parts P xs ys h.1 in ((h.0, r.0), r.1)

all_from_map : {X Y : Type 0} (P : Y → Type 0) (f : X → Y) (xs : List X) → AllByRecursion P (map f xs) → AllByRecursion (λ x. P (f x)) xs
all_from_map P f [] h = tt
all_from_map P f (x ∷ xs) h = (h.0, all_from_map P f xs h.1)

all_both : {X : Type 0} (P Q : X → Type 0) (xs : List X) → AllByRecursion P xs → AllByRecursion Q xs → AllByRecursion (λ x. P x × Q x) xs
all_both P Q [] h k = tt
all_both P Q (x ∷ xs) h k = ((h.0, k.0), all_both P Q xs h.1 k.1)

-- m is a common multiple of all spacings, of the rest and of the rows
module _ (rest : List Task) (lawful : AllLawful rest) (m : ℕ) (pos : 0 < m) (near : m ≤ 100000) (common : Common rest m) where
  -- a row that keeps its rules, and whose spacing divides m
  abbrev Fits : SettledRow → Type 0
  Fits r = (settled_breaks r ≡ None) × (r.spacing ∣ m)

  abbrev OpenFits : OpenRow → Type 0
  OpenFits o = (open_breaks o ≡ None) × (o.spacing ∣ m)

  split_fits : (o : OpenRow) (x : ℕ) → OpenFits o → From 1 x (o.spacing - o.wait - 1) → Fits (with_split o x)
  split_fits o x h f = (split_keeps o.spacing o.first o.wait o.second x h.0 f, h.1)

  -- the check of such rows accepts or is overloaded
  decided : (rs : List SettledRow) → AllByRecursion Fits rs → length rest + length rs ≤ 32 → AcceptedOrOverloaded (verdict (beside rest rs))
  decided rs h few = go (means (beside rest rs))
    where
      law : AllLawful (beside rest rs)
      law = All-append Lawful rest (map settled_own rs) lawful (All-map Lawful settled_own rs (All-weaker Fits (λ r. Lawful (settled_own r)) (λ r f. own_lawful r f.0) rs h))

      multiple : Common (beside rest rs) m
      multiple = All-append (λ k. k.spacing ∣ m) rest (map settled_own rs) common (All-map (λ k. k.spacing ∣ m) settled_own rs (All-weaker Fits (λ r. r.spacing ∣ m) (λ r f. f.1) rs h))

      low : round (beside rest rs) ≤ m
      low = le_of_dvd pos (round_least (beside rest rs) m (spaced_lawful _ law) multiple)

      count : length (beside rest rs) ≤ 32
      count = omega (arith, length-append rest (map settled_own rs), length-map rs settled_own)

      go : Means (beside rest rs) (verdict (beside rest rs)) → AcceptedOrOverloaded (verdict (beside rest rs))
      go (fits v a b f) = inl v
      go (exceeds t v a b l u over before) = inr (t, v)
      go (many v n) = absurd (omega (arith, count))
      go (far v a f) = absurd (omega (arith, low))

  -- the judge of such rows goes by the verdict alone
  judges : (rs : List SettledRow) → AllByRecursion Fits rs → length rs ≤ 32 → judged rest rs ≡ passes rest rs
  judges rs h few =
      let lawful_all : first_fault settled_breaks rs ≡ None = none_breaks settled_breaks rs (All-weaker Fits (λ r. settled_breaks r ≡ None) (λ r f. f.0) rs h) in
      let none : table_fault settled_breaks rs ≡ None = ap (λ b. unless TooManyRows b (first_fault settled_breaks rs)) (le-leb (length rs) 32 few) ∙ lawful_all in
      ap (λ f. if_table f (passes rest rs)) none

  -- what the first split that passes says
  module _ (done : List SettledRow) (o : OpenRow) where
    abbrev Chosen : List ℕ → Option SettledRow → Type 0
    Chosen xs None = NonePasses rest done o xs
    Chosen xs (Some r) = Kept rest done o xs r × Fits r × (verdict (beside rest (done ++ r ∷ [])) ≡ accepted)

    later : (x : ℕ) (xs : List ℕ) (f : Option SettledRow) → IsOverloaded (verdict_at rest done o x) → Chosen xs f → Chosen (x ∷ xs) f
    later x xs None v c = (v, c)
    later x xs (Some r) v c = let k = c.0 in (
      record { failed = x ∷ k.failed; split = k.split; untried = k.untried; offered = ap (λ (l : List ℕ). x ∷ l) k.offered; none_before = (v, k.none_before); holds = k.holds; is = k.is },
      c.1,
      c.2,
    )

  module _ (done : List SettledRow) (o : OpenRow) (kept : AllByRecursion Fits done) (fit : OpenFits o) (few : length rest + (length done + 1) ≤ 32) where
    tried : (x : ℕ) → From 1 x (o.spacing - o.wait - 1) → AllByRecursion Fits (done ++ with_split o x ∷ [])
    tried x f = All-push Fits done (with_split o x) kept (split_fits o x fit f)

    same_first : (xs : List ℕ) → AllByRecursion (λ x. From 1 x (o.spacing - o.wait - 1)) xs → first_passing (judged rest) done o xs ≡ first_passing (passes rest) done o xs
    same_first [] h = refl
    same_first (x ∷ xs) h =
        let e = judges (done ++ with_split o x ∷ []) (tried x h.0) (omega (arith, length_push done (with_split o x))) in
        let r = same_first xs h.1 in
        λ i. cond (e i) (Some (with_split o x)) (r i)

    chosen : (xs : List ℕ) → AllByRecursion (λ x. From 1 x (o.spacing - o.wait - 1)) xs → Chosen done o xs (first_passing (passes rest) done o xs)
    chosen [] h = tt
    chosen (x ∷ xs) h = go (decided (done ++ with_split o x ∷ []) (tried x h.0) (omega (arith, length_push done (with_split o x)))) (chosen xs h.1)
      where
        go : AcceptedOrOverloaded (verdict_at rest done o x) → Chosen done o xs (first_passing (passes rest) done o xs) → Chosen done o (x ∷ xs) (first_passing (passes rest) done o (x ∷ xs))
        go (inl v) c = subst (Chosen done o (x ∷ xs)) (sym (ap (λ v. cond (is_ok v) (Some (with_split o x)) (first_passing (passes rest) done o xs)) v)) (
          record { failed = []; split = x; untried = xs; offered = refl; none_before = tt; holds = v; is = refl },
          split_fits o x fit h.0,
          v,
        )
        go (inr v) c = subst (Chosen done o (x ∷ xs)) (sym (ap (λ v. cond (is_ok v) (Some (with_split o x)) (first_passing (passes rest) done o xs)) v.1)) (later done o x xs _ v c)

  module _ (offers : ℕ → ℕ → ℕ → ℕ → List ℕ) (offered : (T C1 S C2 : ℕ) → LawfulOpen T C1 S C2 → LawfulOffers T S (offers T C1 S C2)) where
    inside : (o : OpenRow) → OpenFits o → AllByRecursion (λ x. From 1 x (o.spacing - o.wait - 1)) (candidates offers o)
    inside o h = (offered o.spacing o.first o.wait o.second (open_keeps o.spacing o.first o.wait o.second h.0)).1

    -- what a seek comes to, from the rows `done` on
    abbrev Comes : List OpenRow → List SettledRow → Sought → Type 0
    Comes os done s = (rs : List SettledRow) × (s.settled ≡ done ++ rs) × Settles rest offers done os rs s.stuck × (verdict (beside rest s.settled) ≡ accepted)

    -- by the row kept for o
    abbrev next : List SettledRow → OpenRow → List OpenRow → (List SettledRow → Bool) → Option SettledRow → Sought
    next done o os pass f = go_on f (record { settled = done; stuck = Some o.name }) (λ r. sought pass offers os (done ++ r ∷ []))

    comes : (os : List OpenRow) (done : List SettledRow) → AllByRecursion OpenFits os → AllByRecursion Fits done → length rest + (length done + length os) ≤ 32 → verdict (beside rest done) ≡ accepted
        → Comes os done (sought (passes rest) offers os done) × (sought (judged rest) offers os done ≡ sought (passes rest) offers os done)
    comes [] done ho hd few v = (([], sym (append-nil done), refl, v), refl)
    comes (o ∷ os) done ho hd few v =
        go (first_passing (passes rest) done o (candidates offers o))
        (same_first done o hd ho.0 (omega arith) (candidates offers o) (inside o ho.0))
        (chosen done o hd ho.0 (omega arith) (candidates offers o) (inside o ho.0))
        (λ r f w. comes os (done ++ r ∷ []) ho.1 (All-push Fits done r hd f) (omega (arith, length_push done r)) w)
      where
        go : (f : Option SettledRow) → first_passing (judged rest) done o (candidates offers o) ≡ f
            → Chosen done o (candidates offers o) f
            → ((r : SettledRow) → Fits r → verdict (beside rest (done ++ r ∷ [])) ≡ accepted → Comes os (done ++ r ∷ []) (sought (passes rest) offers os (done ++ r ∷ [])) × (sought (judged rest) offers os (done ++ r ∷ []) ≡ sought (passes rest) offers os (done ++ r ∷ [])))
            → Comes (o ∷ os) done (next done o os (passes rest) f) × (next done o os (judged rest) (first_passing (judged rest) done o (candidates offers o)) ≡ next done o os (passes rest) f)
        go None e c k = (([], sym (append-nil done), (refl, c), v), ap (next done o os (judged rest)) e)
        go (Some r) e c k = let h = k r c.1 c.2 in let p = h.0 in ((r ∷ p.0, p.1 ∙ append_assoc done (r ∷ []) p.0, (c.0, p.2), p.3), ap (next done o os (judged rest)) e ∙ h.1)

-- a seek that does not stop settles every row
settled_all : (rest : List Task) (offers : ℕ → ℕ → ℕ → ℕ → List ℕ) (os : List OpenRow) (before rs : List SettledRow) → Settles rest offers before os rs None → length rs ≡ length os
settled_all rest offers [] before [] h = refl
settled_all rest offers [] before (r ∷ rs) h = absurd h
settled_all rest offers (o ∷ os) before [] h = let e = h.0 in let z : ◌≡◌ {A = ℕ} 0 1 = cc in absurd (omega arith)
settled_all rest offers (o ∷ os) before (r ∷ rs) h = ap suc (settled_all rest offers os (before ++ r ∷ []) rs h.1)

-- a seek that begins
module _ (rest : List Task) (lawful : AllLawful rest) (rows : List OpenRow) (places : ℕ) where
  module _ (r : Ready rest rows places) where
    keeps : AllByRecursion (λ o. open_breaks o ≡ None) rows
    keeps = each_keeps open_breaks rows r.lawful

    all : AllLawful (rest ++ map split_somewhere rows)
    all = All-append Lawful rest (map split_somewhere rows) lawful (rows_lawful rows keeps)

    pos : 0 < round_of_all rest rows
    pos = round_pos _ (spaced_lawful _ all)

    common : Common rest (round_of_all rest rows) × Common (map split_somewhere rows) (round_of_all rest rows)
    common = all_parts (λ k. k.spacing ∣ round_of_all rest rows) rest (map split_somewhere rows) (round_common _ (spaced_lawful _ all))

    open_fits : AllByRecursion (λ o. (open_breaks o ≡ None) × (o.spacing ∣ round_of_all rest rows)) (queued rows)
    open_fits = all_queued _ rows (all_both (λ o. open_breaks o ≡ None) (λ o. o.spacing ∣ round_of_all rest rows) rows keeps (all_from_map (λ k. k.spacing ∣ round_of_all rest rows) split_somewhere rows common.1))

  pub rest_decided : unready rest rows places ≡ None → AcceptedOrOverloaded (verdict rest)
  rest_decided h =
      let r = ready rest rows places h in
      subst (λ ks. AcceptedOrOverloaded (verdict ks)) (append-nil rest) (decided rest lawful (round_of_all rest rows) (pos r) r.near (common r).0 [] tt (omega (arith, r.few)))

  module _ (offers : ℕ → ℕ → ℕ → ℕ → List ℕ) (offered : (T C1 S C2 : ℕ) → LawfulOpen T C1 S C2 → LawfulOffers T S (offers T C1 S C2)) (h : refused rest rows places ≡ None) where
    whole : Comes rest lawful (round_of_all rest rows) (pos (begun rest rows places h).0) (begun rest rows places h).0.near (common (begun rest rows places h).0).0 offers offered (queued rows) [] (sought (passes rest) offers (queued rows) [])
        × (sought (judged rest) offers (queued rows) [] ≡ sought (passes rest) offers (queued rows) [])
    whole =
        let b = begun rest rows places h in
        let r = b.0 in
        comes rest lawful (round_of_all rest rows) (pos r) r.near (common r).0 offers offered (queued rows) [] (open_fits r) tt (omega (arith, r.few, length_queued rows)) (ap verdict (append-nil rest) ∙ b.1)

    pub judged_alike : sought (judged rest) offers (queued rows) [] ≡ sought (passes rest) offers (queued rows) []
    judged_alike = whole.1

    pub law : (before after : List SettledRow) (answered : Verdict) → answered ≡ ended (sought (passes rest) offers (queued rows) []).stuck → after ≡ over (sought (passes rest) offers (queued rows) []).settled before → Law rest offers rows before after answered
    law before after answered e p =
        let s = sought (passes rest) offers (queued rows) [] in
        let c = whole.0 in record {
          order = queued rows;
          in_order = in_order rows;
          settled = s.settled;
          stuck = s.stuck;
          settles = subst (λ (rs : List SettledRow). Settles rest offers [] (queued rows) rs s.stuck) (sym c.1) c.2;
          passes = c.3;
          answer = e;
          places = p;
        }

    pub all_pass : (before after : List SettledRow) (answered : Verdict) → Law rest offers rows before after answered → answered ≡ accepted → verdict (beside rest (take (length rows) after)) ≡ accepted
    all_pass before after answered l e = go l.stuck l.settles (sym l.answer ∙ e)
      where
        go : (stuck : Option ℕ) → Settles rest offers [] l.order l.settled stuck → ended stuck ≡ accepted → verdict (beside rest (take (length rows) after)) ≡ accepted
        go (Some name) s w = let z : ◌≡◌ {A = ℕ} 0 1 = cc in absurd (omega arith)
        go None s w =
            let long : length l.settled ≡ length rows = settled_all rest offers l.order [] l.settled s ∙ in_order_long rows l.order l.in_order in
            ap (λ rs. verdict (beside rest rs)) (ap (take (length rows)) l.places ∙ take_at l.settled _ (length rows) long) ∙ l.passes
