use Rattle.std.proofs.Common.{◌≡◌, ◌*◌, length, take}
use Rattle.frames.specs.Hex.{spelled}
use Rattle.lines.proofs.line.Line.of.Given as goal

abbrev pub invariant-loop-i : goal.invariant-loop-i
invariant-loop-i l = (length l.text ≡ 29) × (take (2 * l.i) l.text ≡ spelled (take l.i l.bytes))
