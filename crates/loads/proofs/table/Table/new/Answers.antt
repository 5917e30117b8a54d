use Rattle.std.proofs.Common.{arith, rules}
use Rattle.std.proofs.lemmas.Result.{err_from_is_err_and}
use Rattle.model.proofs.Rules.Tables.{fault_next, fault_found, fault_none, own_more, own_all}
use Rattle.loads.proofs.table.Table.new.Goals as goal

pub returns-in_err-made : goal.returns-in_err-made
returns-in_err-made g c =
    let p = err_from_is_err_and c.from_residual.result c.from_residual.ensures.1 in
    rw (p.1, p.2) (fault_found g.R.Kind.fault _ _ _ c.loop-row-test.true c.row-item.is c.loop-row.invariant.0 _ (omega arith) c.in_err-made.ensures)

pub loop-row-preserved : goal.loop-row-preserved
loop-row-preserved g c = (search (rules, fault_next), search (rules, own_more))

pub returns : goal.returns
returns g c = (search rules, search (rules, fault_none), search (rules, own_all))
