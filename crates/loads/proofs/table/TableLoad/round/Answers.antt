use Rattle.std.proofs.Common.{◌≡◌, ℕ, Option, refl, ap, ◌∙◌, arith, rules}
use Rattle.model.specs.Round.{round, lcm, round_told}
use Rattle.model.proofs.Asked.Rows.{round_none, round_next, round_all}
use Rattle.loads.proofs.table.TableLoad.round.Goals as goal

-- the common multiple with a spacing is that with what equals it
respaced : (round a b : ℕ) {o : Option ℕ} → o ≡ round_told (lcm round a) → a ≡ b → o ≡ round_told (lcm round b)
respaced round a b e is = e ∙ ap (λ n. round_told (lcm round n)) is

pub loop-row-init : goal.loop-row-init
unfolding round
loop-row-init g c = (refl, omega arith, omega arith)

pub returns-in_err-round : goal.returns-in_err-round
returns-in_err-round g c = search (rules, round_none, respaced)

pub loop-row-preserved : goal.loop-row-preserved
loop-row-preserved g c = round_next g.R.Bare.task g.R.Bare.lawful _ _ _ _ _ c.loop-row-test.true c.row-item.is c.loop-row.invariant.0 (search rules)

pub returns : goal.returns
returns g c = round_all g.R.Bare.task g.R.Bare.lawful _ _ _ c.loop-row-test.false c.loop-row.invariant.0 c.loop-row.invariant.2
