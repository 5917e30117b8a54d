use Rattle.std.proofs.Common.{rules}
use Rattle.model.proofs.Rules.Keeps.{plain_is_least}
use Rattle.rows.proofs.bare.PlainRowBare.kept.Goals as goal

pub returns-in-Err : goal.returns-in-Err
returns-in-Err c = search (rules, plain_is_least)
