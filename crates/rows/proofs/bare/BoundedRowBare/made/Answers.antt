use Rattle.std.proofs.Common.{rules}
use Rattle.model.proofs.Rules.Keeps.{bounded_is_own}
use Rattle.rows.proofs.bare.BoundedRowBare.made.Goals as goal

pub returns : goal.returns
returns c = search (rules, bounded_is_own)
