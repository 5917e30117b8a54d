use Rattle.std.proofs.Common.{◌≡◌, ◌+◌, ◌≤◌, List, length}
use Rattle.std.specs.Iterator.Adapters.{zip_first, zip_second}
use Rattle.std.specs.Slice.Iter.{split_rest, split_done}
use Rattle.frames.specs.declared.frame.TextRow.{TextRow}
use Rattle.frames.specs.Texts.{places_of, reads, text_read}
use Rattle.frames.proofs.Ends.{left}
use Rattle.frames.proofs.Turning.{Held}
use Rattle.frames.proofs.text.read_text.Given as goal

-- some rows were read, the next line has the next number, what is left is the rest of the text, and the tables are those that were passed
abbrev pub invariant-loop-line : goal.invariant-loop-line
invariant-loop-line l =
    let p = l.initial.tables.plains in
    let o = l.initial.tables.opens in
    let b = l.initial.tables.boundeds in
    let lines = left (split_done (zip_second l.line-iterator)) (split_rest (zip_second l.line-iterator)) in
    (done : List TextRow)
    × Held p.now o.now b.now done l.tables.counts l.tables.plains.now l.tables.opens.now l.tables.boundeds.now
    × ((zip_first l.line-iterator).start ≡ length done + 1)
    × (length done + length lines ≤ 16384)
    × (reads (places_of p.now o.now b.now) done lines ≡ text_read (places_of p.now o.now b.now) l.text)
    × (l.tables.plains.ghost_name ≡ p.ghost_name)
    × (l.tables.opens.ghost_name ≡ o.ghost_name)
    × (l.tables.boundeds.ghost_name ≡ b.ghost_name)
    × goal.iterator-loop-line.can_next l.line-iterator
    × goal.iterator-loop-line.is_finite l.line-iterator
