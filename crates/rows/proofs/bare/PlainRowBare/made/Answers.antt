use Rattle.std.proofs.Common.{rules}
use Rattle.model.proofs.Rules.Keeps.{plain_is_own}
use Rattle.rows.proofs.bare.PlainRowBare.made.Goals as goal

pub returns : goal.returns
returns c = search (rules, plain_is_own)
