use Rattle.std.proofs.Common.{rules}
use Rattle.model.proofs.Rules.Keeps.{settled_is_least}
use Rattle.rows.proofs.bare.SettledRowBare.kept.Goals as goal

pub returns-in-Err : goal.returns-in-Err
returns-in-Err c = search (rules, settled_is_least)
