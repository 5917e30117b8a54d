use Rattle.std.proofs.Common.{rules}
use Rattle.model.proofs.Asked.Slow.{piece_found}
use Rattle.loads.proofs.slowed.SlowedLoad.piece.Goals as goal

pub returns : goal.returns
returns g c = search (rules, piece_found)

pub returns-in_err-ready : goal.returns-in_err-ready
returns-in_err-ready g c = search (rules, piece_found)
