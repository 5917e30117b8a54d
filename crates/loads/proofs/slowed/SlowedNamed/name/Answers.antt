use Rattle.std.proofs.Common.{rules}
use Rattle.model.proofs.Asked.Names.{name_slow}
use Rattle.loads.proofs.slowed.SlowedNamed.name.Goals as goal

pub returns : goal.returns
returns g c = search (rules, name_slow)
