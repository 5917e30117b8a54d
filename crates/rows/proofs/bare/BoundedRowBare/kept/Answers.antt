use Rattle.std.proofs.Common.{rules}
use Rattle.model.proofs.Rules.Keeps.{bounded_is_least}
use Rattle.rows.proofs.bare.BoundedRowBare.kept.Goals as goal

pub returns-in-Err : goal.returns-in-Err
returns-in-Err c = search (rules, bounded_is_least)
