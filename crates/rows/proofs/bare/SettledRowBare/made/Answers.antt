use Rattle.std.proofs.Common.{rules}
use Rattle.model.proofs.Rules.Keeps.{settled_is_own}
use Rattle.rows.proofs.bare.SettledRowBare.made.Goals as goal

pub returns : goal.returns
returns c = search (rules, settled_is_own)
