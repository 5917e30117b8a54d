-- The questions to a list of tasks, and their answers.
use Rattle.std.specs.Prelude.{ℕ, zero, suc, ◌-◌, min, cond, List, length, Some, None, Option, nat_le, nat_lt}
use Rattle.std.specs.List.{slice_get}
use Rattle.std.specs.Option.{option_map}
use Rattle.model.specs.Task.{Piece, Task}
use Rattle.model.specs.Demand.{demand}

-- costs and demands above 10^15 are told as 10^15
abbrev pub told : ℕ → ℕ
told n = min n 1000000000000000

-- 33 stands for 33 or more
abbrev pub count_told : List Task → ℕ
count_told ks = min (length ks) 33

-- task number i, where i is below 32
unfoldable pub found : List Task → ℕ → Option Task
found ks i = cond (nat_lt i 32) (slice_get ks i) None

abbrev pub spacing_told : Option Task → Option ℕ
spacing_told = option_map (λ k. k.spacing)

abbrev pub total_told : Option Task → Option ℕ
total_told = option_map (λ k. told k.total)

abbrev pub piece_tuple : Piece → ℕ × ℕ × ℕ
piece_tuple p = (p.ready, told p.cap, p.due)

-- pieces are numbered from 1
abbrev pub nth_piece : List Piece → ℕ → Option (ℕ × ℕ × ℕ)
nth_piece ps zero = None
nth_piece ps (suc j) = option_map piece_tuple (slice_get ps j)

abbrev pub piece_told : Option Task → ℕ → Option (ℕ × ℕ × ℕ)
piece_told None j = None
piece_told (Some k) j = nth_piece k.pieces j

abbrev pub demand_told : Option Task → ℕ → Option ℕ
demand_told None t = None
demand_told (Some k) t = cond (nat_le t 1000000) (Some (told (demand k t))) None

-- the name of a task, where the load has it
abbrev pub name_told : Option Task → ℕ → Option ℕ
name_told None name = None
name_told (Some k) name = Some name

-- the names of one list's tasks, then of another's
abbrev pub names_then : List Task → (ℕ → ℕ) → (ℕ → ℕ) → ℕ → ℕ
names_then ks first second i = cond (nat_lt i (length ks)) (first i) (second (i - length ks))
