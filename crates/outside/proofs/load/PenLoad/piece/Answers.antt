use Rattle.std.proofs.Common.{rules}
use Rattle.outside.proofs.Found.{found_clock, found_stroke, found_nothing}
use Rattle.outside.proofs.load.PenLoad.piece.Goals as goal

pub returns-in-0 : goal.returns-in-0
returns-in-0 c = search (rules, found_clock)

pub returns-in-1 : goal.returns-in-1
returns-in-1 c = search (rules, found_stroke)

pub returns-in_default : goal.returns-in_default
returns-in_default c = search (rules, found_nothing)
