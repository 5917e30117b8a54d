-- The number of each refusal, and the text that programs print of it.
use Rattle.std.specs.Prelude.{ℕ, List, ◌++◌, codes}
use Rattle.std.specs.Fmt.{decimal}
use Rattle.model.specs.declared.refusal.Refusal.{Refusal}
use Rattle.model.specs.declared.refusal.Refusal.TheVariants.{Spacing, Due, Cost, ZeroPart, TooLong, Split, Total, Factor, TooManyRows, TooManyTasks, NoRound, Overloaded, NoPlace, NoSplit, LateStart, Stopped, NoTask, TooSoon, JobOpen, LastInstant, NotFront, BadDigit, UnknownTag, WrongLength, LongText, OpenLine}

abbrev pub number : Refusal → ℕ
number Spacing = 1
number Due = 2
number Cost = 3
number ZeroPart = 4
number TooLong = 5
number Split = 6
number Total = 7
number Factor = 8
number TooManyRows = 9
number TooManyTasks = 10
number NoRound = 11
number (Overloaded length) = 12
number NoPlace = 13
number (NoSplit name) = 14
number LateStart = 15
number Stopped = 16
number NoTask = 17
number TooSoon = 18
number JobOpen = 19
number LastInstant = 20
number NotFront = 21
number BadDigit = 22
number UnknownTag = 23
number WrongLength = 24
number LongText = 25
number OpenLine = 26

abbrev pub refusal_text : Refusal → List ℕ
refusal_text r = codes "refused by " ++ decimal (number r)
