-- The text that answers a text of frames: its open rows settled beside its other rows, or the one line that says why not.
use Rattle.std.specs.Prelude.{ℕ, List, [], ◌∷◌, ◌++◌, map, take, Some, None, Ok, Err}
use Rattle.std.specs.List.{flat_map}
use Rattle.model.specs.declared.refusal.Refusal.{Refusal}
use Rattle.model.specs.declared.refusal.Refusal.TheVariants.{Spacing, Due, Cost, ZeroPart, TooLong, Split, Total, Factor, TooManyRows, TooManyTasks, NoRound, Overloaded, NoPlace, NoSplit, LateStart, Stopped, NoTask, TooSoon, JobOpen, LastInstant, NotFront, BadDigit, UnknownTag, WrongLength, LongText, OpenLine}
use Rattle.model.specs.Refusals.{number}
use Rattle.model.specs.Splits.{falling_offers}
use Rattle.model.specs.Task.{Task}
use Rattle.model.specs.Verdict.{Verdict}
use Rattle.rows.specs.declared.bare.PlainRow.{PlainRow}
use Rattle.rows.specs.declared.bare.OpenRow.{OpenRow}
use Rattle.rows.specs.declared.bare.BoundedRow.{BoundedRow}
use Rattle.rows.specs.declared.bare.SettledRow.{SettledRow}
use Rattle.rows.specs.Bare.{plain_own, bounded_own}
use Rattle.seeker.specs.Queued.{queued}
use Rattle.seeker.specs.Refused.{refused, answer}
use Rattle.seeker.specs.Sought.{passes, Sought, sought}
use Rattle.frames.specs.declared.fault.Fault.{Fault}
use Rattle.frames.specs.declared.text.Counts.{Counts}
use Rattle.frames.specs.Frames.{settled_numbers, framed_row}
use Rattle.frames.specs.Hex.{line}
use Rattle.frames.specs.Texts.{plain_rows, open_rows, bounded_rows, Outcome, text_read}
use Rattle.lines.specs.Lines.{two, four}

-- the line of a settled row
unfoldable pub settled_line : SettledRow → List ℕ
settled_line r = line (framed_row 18 r.name (take 5 (settled_numbers r)))

abbrev pub fault_text : Fault → List ℕ
fault_text f = line (0xF2 ∷ number f.refusal ∷ two f.line)

-- any refusal that has no line of its own
abbrev pub number_text : Refusal → List ℕ
number_text e = line (0xF4 ∷ number e ∷ [])

abbrev pub refusal_text : Refusal → List ℕ
refusal_text (NoSplit name) = line (0xF1 ∷ name ∷ [])
refusal_text (Overloaded length) = line (0xF3 ∷ four length)
refusal_text Spacing = number_text Spacing
refusal_text Due = number_text Due
refusal_text Cost = number_text Cost
refusal_text ZeroPart = number_text ZeroPart
refusal_text TooLong = number_text TooLong
refusal_text Split = number_text Split
refusal_text Total = number_text Total
refusal_text Factor = number_text Factor
refusal_text TooManyRows = number_text TooManyRows
refusal_text TooManyTasks = number_text TooManyTasks
refusal_text NoRound = number_text NoRound
refusal_text NoPlace = number_text NoPlace
refusal_text LateStart = number_text LateStart
refusal_text Stopped = number_text Stopped
refusal_text NoTask = number_text NoTask
refusal_text TooSoon = number_text TooSoon
refusal_text JobOpen = number_text JobOpen
refusal_text LastInstant = number_text LastInstant
refusal_text NotFront = number_text NotFront
refusal_text BadDigit = number_text BadDigit
refusal_text UnknownTag = number_text UnknownTag
refusal_text WrongLength = number_text WrongLength
refusal_text LongText = number_text LongText
refusal_text OpenLine = number_text OpenLine

-- settled rows and the line that ends them
abbrev pub settled_lines : List SettledRow → List ℕ
settled_lines rows = flat_map settled_line rows ++ line (0xF0 ∷ [])

-- what is printed of a seek, by its answer
abbrev pub printed : Verdict → List SettledRow → List ℕ
printed (Ok _) rows = settled_lines rows
printed (Err e) rows = refusal_text e

-- the tasks that stay as they are
abbrev pub rest_of : List PlainRow → List BoundedRow → List Task
rest_of plains boundeds = map plain_own plains ++ map bounded_own boundeds

-- what open rows come to beside a rest
abbrev pub settling : List Task → List OpenRow → Sought
settling rest rows = sought (passes rest) falling_offers (queued rows) []

-- open rows beside a rest, in 32 places
abbrev pub sought_text : List Task → List OpenRow → List ℕ
sought_text rest rows = printed (answer (refused rest rows 32) (settling rest rows)) (settling rest rows).settled

abbrev pub rows_text : List PlainRow → List OpenRow → List BoundedRow → List ℕ
rows_text plains opens boundeds = sought_text (rest_of plains boundeds) opens

-- the outcome of reading
abbrev pub outcome_text : Outcome → List ℕ
outcome_text o = elim o.fault [ None ↦ rows_text (plain_rows o.rows) (open_rows o.rows) (bounded_rows o.rows) | Some e ↦ fault_text e ]

-- tables of 32 places
abbrev pub tables : Counts
tables = record { plains = 32; opens = 32; boundeds = 32 }

abbrev pub settled_text : List ℕ → List ℕ
settled_text text = outcome_text (text_read tables text)
