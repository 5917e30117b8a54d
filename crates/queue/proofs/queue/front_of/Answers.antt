use Rattle.std.proofs.Common.{◌∙◌}
use Rattle.queue.proofs.Held.{gives_first}
use Rattle.queue.proofs.queue.front_of.Goals as goal

pub returns-clause-first : goal.returns-clause-first
returns-clause-first g c = gives_first g.R.Ranked.earlier g.R.Ranked.total c.args.items.now c.args.len c.min-n.result c.min-n.ensures c.copied.result (c.copied.ensures ∙ c.first.ensures.value)
