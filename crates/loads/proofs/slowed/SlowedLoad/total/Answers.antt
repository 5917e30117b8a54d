use Rattle.std.proofs.Common.{rules}
use Rattle.model.proofs.Asked.Slow.{total_found}
use Rattle.loads.proofs.slowed.SlowedLoad.total.Goals as goal

pub returns : goal.returns
returns g c = search (rules, total_found)
