-- The entries of a load's tasks, copied one by one.
use Rattle.std.proofs.Common.{◌≡◌, ℕ, ◌+◌, ◌<◌, ◌≤◌, ltb, List, ◌++◌, map, length, get_or, take, set, Some, None, sym, ap, ◌∙◌, subst, ⊎_elim, arith}
use Rattle.std.specs.List.{slice_get}
use Rattle.std.specs.Option.{option_map}
use Rattle.std.proofs.lemmas.List.{same_lists, get_or-map, get_or_append_left, length-map, take_at, get_or-set_same, get_or-set_other, length-set}
use Rattle.std.proofs.lemmas.Option.{slice_get-get_or}
use Rattle.std.proofs.lemmas.Bool.{cond-true, lt-ltb, le-leb, cases_eq}
use Rattle.model.specs.Task as task
use Rattle.model.specs.Machine as model
use Rattle.model.specs.Asked.{found}
use Rattle.model.specs.Told.{told_task}
use Rattle.machine.specs.declared.numbers.Numbers.{Numbers}
use Rattle.machine.specs.declared.entry.Entry.{Entry}
use Rattle.machine.specs.Views.{blank, task_of, Resting}
use Rattle.machine.specs.Copies.{numbers_task}
use Rattle.machine.specs.Opened.{open_fault}
use Rattle.machine.proofs.Copying.{some_of}

found_is : (ts : List task.Task) (i : ℕ) → i < 32 → i < length ts → found ts i ≡ Some (get_or ts i model.no_task)
unfolding found
found_is ts i l m = cond-true (ltb i 32) (slice_get ts i) None (lt-ltb i 32 l) ∙ slice_get-get_or ts i model.no_task m

pub allowed : (ks : List task.Task) (start : ℕ) → length ks ≤ 32 → start ≤ 999999999700000 → open_fault ks start ≡ None
allowed ks start few early = let p = le-leb (length ks) 32 few in let q = le-leb start 999999999700000 early in rw (p, q)

-- of n entries, the first i are those of the load's tasks
abbrev pub Filled : List task.Task → ℕ → List Entry → ℕ → Type 0
Filled ts n es i = (length es ≡ n) × ((k : ℕ) → k < i → Resting (get_or es k blank) × (task_of (get_or es k blank) ≡ told_task (get_or ts k model.no_task)))

pub fill_more : (ts : List task.Task) (n : ℕ) (es : List Entry) (i : ℕ) (e : Entry) (k : Numbers) → i < 32 → i < n → i < length ts → Resting e → e.task ≡ k → Some (numbers_task k) ≡ option_map told_task (found ts i) → Filled ts n es i → Filled ts n (set es i e) (i + 1)
fill_more ts n es i e k l m f r q t h = (
  length-set es i e ∙ h.0,
  λ j b. ⊎_elim
      (λ s. let there : get_or (set es i e) j blank ≡ e = ap (λ j. get_or (set es i e) j blank) s ∙ get_or-set_same es i e blank (omega (arith, h.0)) in
      subst (λ (v : Entry). Resting v × (task_of v ≡ told_task (get_or ts j model.no_task))) (sym there) (r, same ∙ ap (λ j. told_task (get_or ts j model.no_task)) (sym s)))
      (λ s. subst (λ (v : Entry). Resting v × (task_of v ≡ told_task (get_or ts j model.no_task))) (sym (get_or-set_other es i j e blank s)) (h.1 j (omega (arith, s))))
      (cases_eq j i),
)
  where
    same : task_of e ≡ told_task (get_or ts i model.no_task)
    same = ap numbers_task q ∙ some_of _ _ (t ∙ ap (option_map told_task) (found_is ts i l f))

pub never_none : (ts : List task.Task) (i : ℕ) → i < 32 → i < length ts → None ≡ option_map told_task (found ts i) → ⊥
never_none ts i l m e = let z : None ≡ Some (told_task (get_or ts i model.no_task)) = e ∙ ap (option_map told_task) (found_is ts i l m) in cc

-- beside whatever entries
pub filled_rest : (ts : List task.Task) (es post : List Entry) (n : ℕ) → Filled ts n es n → (i : ℕ) → i < n → Resting (get_or (es ++ post) i blank)
filled_rest ts es post n h i l = subst Resting (sym (get_or_append_left es post blank i (omega (arith, h.0)))) (h.1 i l).0

pub filled_all : (ts : List task.Task) (es post : List Entry) (n : ℕ) → n ≡ length ts → Filled ts n es n → map task_of (take n (es ++ post)) ≡ map told_task ts
filled_all ts es post n e h = ap (map task_of) (take_at es post n h.0)
    ∙ same_lists _ _ (length-map es task_of ∙ h.0 ∙ e ∙ sym (length-map ts told_task)) (λ k d b.
    let m : k < n = omega (arith, h.0, length-map es task_of) in
    get_or-map task_of es k blank d (omega (arith, h.0)) ∙ (h.1 k m).1 ∙ sym (get_or-map told_task ts k model.no_task d (omega arith)))
