use Rattle.std.proofs.Common.{rules}
use Rattle.model.proofs.Rules.Asks.{plain_asked}
use Rattle.rows.proofs.plain.PlainRowImpl.demand.Goals as goal

pub returns : goal.returns
returns c =
    let p = c.args.self.now.row in
    let a = plain_asked p.spacing p.due p.cost c.args.self.now.ok c.args.length (search rules) _ (search rules) in
    record { value = a.value; greatest = a.greatest }
