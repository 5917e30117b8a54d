use Rattle.std.proofs.Common.{◌≡◌, ◌+◌, ◌*◌, length, take, drop}
use Rattle.frames.specs.Frames.{framed_row}
use Rattle.lines.specs.Lines.{all_short}
use Rattle.lines.proofs.write.frame_of.Given as goal

abbrev pub invariant-loop-k : goal.invariant-loop-k
invariant-loop-k l =
    (length l.frame ≡ 14)
    × (take (2 * l.k + 2) l.frame ≡ framed_row l.tag l.name (take l.k l.field-items))
    × (all_short (drop l.k l.field-items) ≡ all_short l.field-items)
