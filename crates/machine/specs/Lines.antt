-- What the lines of ready and of held pieces hold.
use Rattle.std.specs.Prelude.{◌≡◌, ℕ, suc, ◌+◌, Bool, List, [], ◌∷◌, map, take, Some, None, sum_by, Option}
use Rattle.std.specs.List.{ContainsAt as Has}
use Rattle.queue.specs.Held.{First}
use Rattle.queue.specs.declared.records.ReadyPiece.{ReadyPiece}
use Rattle.queue.specs.declared.records.HeldPiece.{HeldPiece}
use Rattle.model.specs.Order.{pair_before}
use Rattle.model.specs.Machine.{Pick}

-- the order of either line: by instant, then by task
abbrev pub pick_before : Pick → Pick → Bool
pick_before x y = pair_before x.key x.number y.key y.number

-- a record by its task and the instant that ranks it
abbrev pub ready_pick : ReadyPiece → Pick
ready_pick x = record { number = x.task; key = x.due }

abbrev pub held_pick : HeldPiece → Pick
held_pick x = record { number = x.task; key = x.ready }

-- the records in the first n places, by their picks
abbrev pub picks : {X : Type 0} → (X → Pick) → ℕ → List X → List Pick
picks pick n xs = map pick (take n xs)

-- what task number i counts, by its key
abbrev pub worth : (Pick → ℕ) → ℕ → Option ℕ → ℕ
worth f i None = 0
worth f i (Some a) = f (record { number = i; key = a })

-- the sum of f over the keys of the tasks, numbered from i
abbrev pub tally : (Pick → ℕ) → ℕ → List (Option ℕ) → ℕ
tally f i [] = 0
tally f i (k ∷ ks) = worth f i k + tally f (suc i) ks

-- xs holds just the keys ks, each with its task: by every function, the sum is the same
abbrev pub Holds : List Pick → List (Option ℕ) → Type 0
Holds xs ks = (f : Pick → ℕ) → sum_by f xs ≡ tally f 0 ks

-- x is at the front of a line that holds xs
abbrev pub Fronts : List Pick → Option Pick → Type 0
Fronts xs None = xs ≡ []
Fronts xs (Some x) = First pick_before x xs × Has xs x

-- taking the front of a line that held xs left ys
abbrev pub Takes : List Pick → Option Pick → List Pick → Type 0
Takes xs None ys = xs ≡ []
Takes xs (Some x) ys = First pick_before x xs × ((f : Pick → ℕ) → sum_by f xs ≡ f x + sum_by f ys)

-- with a key, the front of a line that held xs went and left ys; without one, the line is as it was
abbrev pub Goes : Option ℕ → List Pick → List Pick → Type 0
Goes None xs ys = ys ≡ xs
Goes (Some a) xs ys = (o : Option Pick) × Takes xs o ys
