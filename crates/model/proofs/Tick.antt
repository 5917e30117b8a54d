-- A tick is earliest deadline first.
use Rattle.std.proofs.Common.{◌≡◌, ℕ, ◌^◌, Bool, true, leb, List, [], ◌∷◌, map, get_or, Some, None, Option, sym, refl, ◌∙◌, inl, inr, arith}
use Rattle.std.proofs.lemmas.Option.{cond_some}
use Rattle.std.proofs.lemmas.Bool.{cases_lt, leb-true, le-leb, cond_both}
use Rattle.model.specs.declared.refusal.Refusal.{Refusal}
use Rattle.model.specs.Task.{Piece, Task}
use Rattle.model.specs.Machine.{refused, State, Step, Pick, Chosen, since, due_if, ready_due, late_due, front, late, progress_at, stopped, runs, misses}
use Rattle.model.specs.Laws.{Unfinished, Ready, Late, EarliestBy, TickSays, TickIsEarliestDeadlineFirst}
use Rattle.model.proofs.Least.{chosen, key_at}

-- the key of a task is the due instant of its first unfinished piece, where the test counts it
module _ (counts : ℕ → ℕ → Bool) (s : State) where
  Counted : ℕ → ℕ → Type 0
  Counted i d = (p : Piece) × Unfinished s i p × (counts (since (progress_at s i).last p.ready) (since (progress_at s i).last p.due) ≡ true) × (since (progress_at s i).last p.due ≡ d)

  keyed : (i d : ℕ) → Counted i d → due_if counts (progress_at s i).last (progress_at s i).left ≡ Some d
  unfolding Counted
  keyed i d h = rw (h.1.1, h.2, h.3)

  counted : (i d : ℕ) → due_if counts (progress_at s i).last (progress_at s i).left ≡ Some d → Counted i d
  unfolding Counted
  counted i d e = go (progress_at s i).left refl e
    where
      go : (l : List Piece) → (progress_at s i).left ≡ l → due_if counts (progress_at s i).last l ≡ Some d → Counted i d
      go [] is e = cc
      go (p ∷ rest) is e = let c = cond_some (counts (since (progress_at s i).last p.ready) (since (progress_at s i).last p.due)) (since (progress_at s i).last p.due) d e in (p, (rest, is), c.0, c.1)

  at_key : (i : ℕ) → get_or (map (λ g. due_if counts g.last g.left) s.progress) i None ≡ due_if counts (progress_at s i).last (progress_at s i).left
  at_key i = key_at (λ g. due_if counts g.last g.left) refl s.progress i

  none_counted : Chosen (map (λ g. due_if counts g.last g.left) s.progress) None → (j e : ℕ) → Counted j e → ⊥
  none_counted h j e c = cc (h j, at_key j, keyed j e c)

  earliest : (c : Pick) → Chosen (map (λ g. due_if counts g.last g.left) s.progress) (Some c) → EarliestBy Counted c.number
  earliest c h = (
    c.key,
    counted c.number c.key (sym (at_key c.number) ∙ h.here),
    λ j e k.
        let is = at_key j ∙ keyed j e k in
        let low = h.lowest j e is in
        elim (cases_lt c.key e) [
          | inl l ↦ inl l
          | inr g ↦ inr (omega arith, elim (cases_lt j c.number) [ inl b ↦ absurd (omega (arith, h.first j e is b)) | inr b ↦ b ])
        ],
  )

earliest_map : (P Q : ℕ → ℕ → Type 0) → ((i d : ℕ) → P i d → Q i d) → ((i d : ℕ) → Q i d → P i d) → (i : ℕ) → EarliestBy P i → EarliestBy Q i
earliest_map P Q to from i h = (h.0, to i h.0 h.1, λ j e q. h.2 j e (from j e q))

module _ (s : State) where
  ready_counted : (i d : ℕ) → Ready s i d → Counted (λ r d. leb r s.now) s i d
  unfolding Counted
  ready_counted i d h = (h.0, h.1, le-leb _ _ h.2, h.3)

  counted_ready : (i d : ℕ) → Counted (λ r d. leb r s.now) s i d → Ready s i d
  unfolding Counted
  counted_ready i d h = (h.0, h.1, leb-true _ _ h.2, h.3)

  late_counted : (i d : ℕ) → Late s i d → Counted (λ r d. leb d s.now) s i d
  unfolding Counted
  late_counted i d h = (h.0, h.1, le-leb _ _ (omega (arith, h.2, h.3)), h.3)

  counted_late : (i d : ℕ) → Counted (λ r d. leb d s.now) s i d → Late s i d
  unfolding Counted
  counted_late i d h = (h.0, h.1, omega (arith, leb-true _ _ h.2, h.3), h.3)

  says_refused : (e : Refusal) → TickSays s (refused e)
  says_refused e = record {
    runs_earliest = λ i p h. cc;
    runs_in_time = λ i p h. cc;
    idles_unready = λ h. cc;
    idles_in_time = λ h. cc;
    misses_earliest = λ i p x h. cc;
  }

  says_runs : (ks : List Task) → ((j e : ℕ) → Late s j e → ⊥) → (o : Option Pick) → Chosen (map (ready_due s.now) s.progress) o → TickSays s (runs ks s o).answer
  says_runs ks in_time None h = record {
    runs_earliest = λ i p e. cc;
    runs_in_time = λ i p e. in_time;
    idles_unready = λ e j d r. none_counted (λ r d. leb r s.now) s h j d (ready_counted j d r);
    idles_in_time = λ e. in_time;
    misses_earliest = λ i p x e. cc;
  }
  says_runs ks in_time (Some c) h = record {
    runs_earliest = λ i p e. let n : c.number ≡ i = cc in rw n at (earliest_map _ (Ready s) counted_ready ready_counted c.number (earliest (λ r d. leb r s.now) s c h));
    runs_in_time = λ i p e. in_time;
    idles_unready = λ e. cc;
    idles_in_time = λ e. in_time;
    misses_earliest = λ i p x e. cc;
  }

  says_misses : (ks : List Task) (o : Option Pick) → Chosen (map (late_due s.now) s.progress) o → TickSays s (misses ks s o).answer
  says_misses ks None h = says_runs ks (λ j e l. none_counted (λ r d. leb d s.now) s h j e (late_counted j e l)) (front s) (chosen (map (ready_due s.now) s.progress))
  says_misses ks (Some c) h = record {
    runs_earliest = λ i p e. cc;
    runs_in_time = λ i p e. cc;
    idles_unready = λ e. cc;
    idles_in_time = λ e. cc;
    misses_earliest = λ i p x e. let n : c.number ≡ i = cc in (rw n at (earliest_map _ (Late s) counted_late late_counted c.number (earliest (λ r d. leb d s.now) s c h)), cc);
  }

pub tick_is_earliest_deadline_first : TickIsEarliestDeadlineFirst
tick_is_earliest_deadline_first ks s =
    cond_both (stopped s.miss) _ _ (λ (st : Step). TickSays s st.answer) (λ t. says_refused s _)
    (λ t. cond_both (leb (10 ^ 15) s.now) _ _ (λ (st : Step). TickSays s st.answer) (λ t. says_refused s _)
    (λ t. says_misses s ks (late s) (chosen (map (late_due s.now) s.progress))))
