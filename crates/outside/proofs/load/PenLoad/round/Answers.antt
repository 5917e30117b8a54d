use Rattle.outside.proofs.Found.{round_is}
use Rattle.outside.proofs.load.PenLoad.round.Goals as goal

pub returns : goal.returns
returns c = round_is _ _
