use Rattle.std.proofs.Common.{rules}
use Rattle.outside.proofs.Found.{clock_told, stroke_told, nothing_told}
use Rattle.outside.proofs.load.PenLoad.demand.Goals as goal

pub returns-in-0 : goal.returns-in-0
returns-in-0 c = search (rules, clock_told)

pub returns-in-1 : goal.returns-in-1
returns-in-1 c = search (rules, stroke_told)

pub returns-in_default : goal.returns-in_default
returns-in_default c = search (rules, nothing_told)
