use Rattle.std.proofs.Common.{◌≡◌, take, vec_items}
use Rattle.std.specs.List.{flat_map}
use Rattle.settling.specs.Settled.{settled_line}
use Rattle.settling.proofs.print.settled_lines.Given as goal

abbrev pub invariant-loop-row : goal.invariant-loop-row
invariant-loop-row l = vec_items l.text ≡ flat_map settled_line (take l.row-index l.rows)
