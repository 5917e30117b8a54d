-- The machine by what its calls do: the instant, the miss, and of each task its last wake and what is unfinished of its job.
use Rattle.std.specs.Prelude.{◌≡◌, ℕ, suc, ◌+◌, ◌-◌, ◌^◌, ◌<◌, ◌≤◌, min, Bool, true, false, cond, not, nat_le, List, [], ◌∷◌, map, length, slice_index_or, Some, None, Option, ◌==◌, nat_lt, slice_set}
use Rattle.model.specs.declared.refusal.Refusal.{Refusal}
use Rattle.model.specs.declared.refusal.Refusal.TheVariants.{Stopped, NoTask, TooSoon, JobOpen, LastInstant, NotFront}
use Rattle.model.specs.Refusals.{number}
use Rattle.model.specs.Task.{Piece, Task}

pub data Call : Type 0 where
  wake : ℕ → Call
  end : ℕ → Call
  tick : Call

pub data Answer : Type 0 where
  done : Answer
  ran : ℕ → ℕ → Answer
  idle : Answer
  missed : ℕ → ℕ → ℕ → Answer
  refused : Refusal → Answer

-- the number of the refusal that a call answered, 0 where it was not refused
abbrev pub refused_by : Answer → ℕ
refused_by done = 0
refused_by (ran task piece) = 0
refused_by idle = 0
refused_by (missed task piece instant) = 0
refused_by (refused e) = number e

-- one task: its last wake, the unfinished pieces of its job in their order (none: at rest),
-- the ticks run by the first of them and by the job's finished pieces
pub record Progress : Type 0 where
  pub last : Option ℕ
  pub left : List Piece
  pub ran_now : ℕ
  pub ran_before : ℕ

pub record Miss : Type 0 where
  pub task : ℕ
  pub piece : ℕ
  pub instant : ℕ

pub record State : Type 0 where
  pub now : ℕ
  pub miss : Option Miss
  pub progress : List Progress

abbrev pub at_rest : Progress
at_rest = record { last = None; left = []; ran_now = 0; ran_before = 0 }

abbrev pub asleep : List Task → List Progress
asleep [] = []
asleep (k ∷ ks) = at_rest ∷ asleep ks

abbrev pub opened : List Task → ℕ → State
opened ks start = record { now = start; miss = None; progress = asleep ks }

-- an instant counted from the last wake
abbrev pub since : Option ℕ → ℕ → ℕ
since None offset = offset
since (Some w) offset = w + offset

-- the due instant of the first unfinished piece, where `counts` says so of its ready and due instants
abbrev pub due_if : (ℕ → ℕ → Bool) → Option ℕ → List Piece → Option ℕ
due_if counts last [] = None
due_if counts last (p ∷ ps) = cond (counts (since last p.ready) (since last p.due)) (Some (since last p.due)) None

abbrev pub ready_due : ℕ → Progress → Option ℕ
ready_due now g = due_if (λ r d. nat_le r now) g.last g.left

abbrev pub late_due : ℕ → Progress → Option ℕ
late_due now g = due_if (λ r d. nat_le d now) g.last g.left

-- of the tasks that have a key the one with the least, the lowest number on a tie
pub record Pick : Type 0 where
  pub number : ℕ
  pub key : ℕ

abbrev pub next : Option Pick → Option Pick
next None = None
next (Some c) = Some (record { number = suc c.number; key = c.key })

abbrev pub better : ℕ → Option Pick → Option Pick
better d None = Some (record { number = 0; key = d })
better d (Some c) = cond (nat_lt c.key d) (Some c) (Some (record { number = 0; key = d }))

abbrev pub least : List (Option ℕ) → Option Pick
least [] = None
least (None ∷ ds) = next (least ds)
least (Some d ∷ ds) = better d (next (least ds))

-- c is the least of the keys ds, and the first of those
pub record Picked (ds : List (Option ℕ)) (c : Pick) : Type 0 where
  pub within : c.number < length ds
  pub here : slice_index_or ds c.number None ≡ Some c.key
  pub lowest : (j v : ℕ) → slice_index_or ds j None ≡ Some v → c.key ≤ v
  pub first : (j v : ℕ) → slice_index_or ds j None ≡ Some v → j < c.number → c.key < v

-- what `least` answers, by its answer
abbrev pub Chosen : List (Option ℕ) → Option Pick → Type 0
Chosen ds None = (j : ℕ) → slice_index_or ds j None ≡ None
Chosen ds (Some c) = Picked ds c

abbrev pub front : State → Option Pick
front s = least (map (ready_due s.now) s.progress)

abbrev pub late : State → Option Pick
late s = least (map (late_due s.now) s.progress)

abbrev pub no_task : Task
no_task = record { spacing = 0; total = 0; pieces = [] }

abbrev pub task_at : List Task → ℕ → Task
task_at ks i = slice_index_or ks i no_task

abbrev pub progress_at : State → ℕ → Progress
progress_at s i = slice_index_or s.progress i at_rest

-- the piece of task i that is at work, counted from 1
abbrev pub piece_number : Task → Progress → ℕ
piece_number k g = (length k.pieces + 1) - length g.left

-- the ticks that the first unfinished piece may run
abbrev pub limit_of : Task → Progress → List Piece → ℕ
limit_of k g [] = 0
limit_of k g (p ∷ ps) = min p.cap (k.total - g.ran_before)

abbrev pub limit : Task → Progress → ℕ
limit k g = limit_of k g g.left

abbrev pub rest_of : List Piece → List Piece
rest_of [] = []
rest_of (p ∷ ps) = ps

abbrev pub finished : Progress → Progress
finished g = record { last = g.last; left = rest_of g.left; ran_now = 0; ran_before = g.ran_before + g.ran_now }

abbrev pub one_more : Progress → Progress
one_more g = record { last = g.last; left = g.left; ran_now = g.ran_now + 1; ran_before = g.ran_before }

abbrev pub ran_tick : Task → Progress → Progress
ran_tick k g = cond (nat_le (limit k g) (g.ran_now + 1)) (finished (one_more g)) (one_more g)

abbrev pub started : Task → ℕ → Progress
started k now = record { last = Some now; left = k.pieces; ran_now = 0; ran_before = 0 }

abbrev pub too_soon : Task → ℕ → Option ℕ → Bool
too_soon k now None = false
too_soon k now (Some w) = nat_lt now (w + k.spacing)

abbrev pub is_open : List Piece → Bool
is_open [] = false
is_open (p ∷ ps) = true

abbrev pub stopped : Option Miss → Bool
stopped None = false
stopped (Some m) = true

pub record Step : Type 0 where
  pub answer : Answer
  pub after : State

abbrev pub refuses : State → Refusal → Step
refuses s e = record { answer = refused e; after = s }

abbrev pub with_progress : State → ℕ → Progress → State
with_progress s i g = record { now = s.now; miss = s.miss; progress = slice_set s.progress i g }

abbrev pub later : State → State
later s = record { now = s.now + 1; miss = s.miss; progress = s.progress }

abbrev pub do_wake : List Task → State → ℕ → Step
do_wake ks s i =
    cond (stopped s.miss) (refuses s Stopped)
    (cond (not (nat_lt i (length ks))) (refuses s NoTask)
    (cond (too_soon (task_at ks i) s.now (progress_at s i).last) (refuses s TooSoon)
    (cond (is_open (progress_at s i).left) (refuses s JobOpen)
    (record { answer = done; after = with_progress s i (started (task_at ks i) s.now) }))))

abbrev pub is_front : ℕ → Option Pick → Bool
is_front i None = false
is_front i (Some c) = i == c.number

abbrev pub do_end : List Task → State → ℕ → Step
do_end ks s i =
    cond (stopped s.miss) (refuses s Stopped)
    (cond (not (nat_lt i (length ks))) (refuses s NoTask)
    (cond (not (is_front i (front s))) (refuses s NotFront)
    (record { answer = done; after = with_progress s i (finished (progress_at s i)) })))

abbrev pub runs : List Task → State → Option Pick → Step
runs ks s None = record { answer = idle; after = later s }
runs ks s (Some c) =
    let i = c.number in
    let g = progress_at s i in
    record { answer = ran i (piece_number (task_at ks i) g); after = later (with_progress s i (ran_tick (task_at ks i) g)) }

abbrev pub misses : List Task → State → Option Pick → Step
misses ks s None = runs ks s (front s)
misses ks s (Some c) =
    let i = c.number in
    let p = piece_number (task_at ks i) (progress_at s i) in
    record { answer = missed i p s.now; after = record { now = s.now; miss = Some (record { task = i; piece = p; instant = s.now }); progress = s.progress } }

abbrev pub do_tick : List Task → State → Step
do_tick ks s =
    cond (stopped s.miss) (refuses s Stopped)
    (cond (nat_le (10 ^ 15) s.now) (refuses s LastInstant)
    (misses ks s (late s)))

abbrev pub step : List Task → State → Call → Step
step ks s (wake i) = do_wake ks s i
step ks s (end i) = do_end ks s i
step ks s tick = do_tick ks s

-- what a run of calls leaves
abbrev pub after_all : List Task → State → List Call → State
after_all ks s [] = s
after_all ks s (c ∷ cs) = after_all ks (step ks s c).after cs

abbrev pub answers : List Task → State → List Call → List Answer
answers ks s [] = []
answers ks s (c ∷ cs) = (step ks s c).answer ∷ answers ks (step ks s c).after cs
