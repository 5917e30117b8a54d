-- Why a seek does not begin, what it answers, and what it leaves in the places.
use Rattle.std.specs.Prelude.{ℕ, ◌+◌, List, [], ◌++◌, map, length, Some, None, Ok, Err, Option, nat_le}
use Rattle.model.specs.declared.refusal.Refusal.{Refusal}
use Rattle.model.specs.declared.refusal.Refusal.TheVariants.{TooManyTasks, NoRound, NoPlace, NoSplit}
use Rattle.model.specs.Round.{round}
use Rattle.model.specs.Rules.{unless, either, first_fault}
use Rattle.model.specs.Task.{Task}
use Rattle.model.specs.Verdict.{Verdict, accepted, verdict}
use Rattle.rows.specs.Bare.{open_breaks, settled_own, with_split}
use Rattle.rows.specs.declared.bare.OpenRow.{OpenRow}
use Rattle.rows.specs.declared.bare.SettledRow.{SettledRow}
use Rattle.seeker.specs.Queued.{queued}
use Rattle.seeker.specs.Sought.{passes, Sought, sought, over}

-- an open row has the same spacing at every split: 1 stands for any
abbrev pub split_somewhere : OpenRow → Task
split_somewhere o = settled_own (with_split o 1)

-- the round of a rest and of open rows together
abbrev pub round_of_all : List Task → List OpenRow → ℕ
round_of_all rest rows = round (rest ++ map split_somewhere rows)

-- the first reason, before any verdict, why rows are not sought beside a rest, given so many places
abbrev pub unready : List Task → List OpenRow → ℕ → Option Refusal
unready rest rows places =
    unless TooManyTasks (nat_le (length rest + length rows) 32)
    (unless NoPlace (nat_le (length rows) places)
    (either (first_fault open_breaks rows)
    (unless NoRound (nat_le (round_of_all rest rows) 100000) None)))

abbrev pub refusal_of : Verdict → Option Refusal
refusal_of (Ok _) = None
refusal_of (Err e) = Some e

-- and, after those, that the rest alone does not pass
abbrev pub refused : List Task → List OpenRow → ℕ → Option Refusal
refused rest rows places = either (unready rest rows places) (refusal_of (verdict rest))

abbrev pub by_refusal : Option Refusal → Verdict
by_refusal None = accepted
by_refusal (Some e) = Err e

-- the answer of a seek that stopped at the row of this name, if at any
abbrev pub ended : Option ℕ → Verdict
ended None = accepted
ended (Some name) = Err (NoSplit name)

abbrev pub answer : Option Refusal → Sought → Verdict
answer None s = ended s.stuck
answer (Some e) s = Err e

abbrev pub leaves : Option Refusal → List SettledRow → Sought → List SettledRow
leaves None places s = over s.settled places
leaves (Some e) places s = places

-- a seek of rows beside a rest in some places, by the offers of a splitter: its answer, and what it leaves in the places
module _ (rest : List Task) (offers : ℕ → ℕ → ℕ → ℕ → List ℕ) (rows : List OpenRow) (places : List SettledRow) where
  abbrev pub seek_answers : Verdict
  seek_answers = answer (refused rest rows (length places)) (sought (passes rest) offers (queued rows) [])

  abbrev pub seek_leaves : List SettledRow
  seek_leaves = leaves (refused rest rows (length places)) places (sought (passes rest) offers (queued rows) [])
