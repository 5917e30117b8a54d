use Rattle.std.proofs.Common.{rules}
use Rattle.model.proofs.Round.Told.{none_first, none_second, round_both}
use Rattle.loads.proofs.pair.PairLoad.round.Goals as goal

pub returns-in_err-first : goal.returns-in_err-first
returns-in_err-first g c = search (rules, none_first)

pub returns-in_err-second : goal.returns-in_err-second
returns-in_err-second g c = search (rules, none_second)

pub returns : goal.returns
returns g c = search (rules, round_both)
