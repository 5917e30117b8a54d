-- What the two lines hold, by the picks of their records.
use Rattle.std.specs.Prelude.{List}
use Rattle.model.specs.Machine.{Pick}
use Rattle.machine.specs.declared.lines.Lines.{Lines}
use Rattle.machine.specs.Lines.{picks, ready_pick, held_pick}

abbrev pub readies : Lines → List Pick
readies q = picks ready_pick q.ready.len q.ready.items

abbrev pub helds : Lines → List Pick
helds q = picks held_pick q.held.len q.held.items
