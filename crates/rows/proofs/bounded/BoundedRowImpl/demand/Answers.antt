use Rattle.std.proofs.Common.{rules}
use Rattle.model.proofs.Rules.Asks.{paired_asked}
use Rattle.rows.proofs.bounded.BoundedRowImpl.demand.Goals as goal

pub returns : goal.returns
returns c =
    let p = c.args.self.now.row in
    let a = paired_asked p.spacing p.wait p.split p.first p.second p.total c.args.self.now.ok c.args.length _ (search rules) (search rules) in
    record { value = a.value; greatest = a.greatest }
