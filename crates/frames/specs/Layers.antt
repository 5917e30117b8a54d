-- The names of layers, as they are printed.
use Rattle.std.specs.Prelude.{ℕ, List, codes}
use Rattle.frames.specs.declared.fault.Layer.{Layer}
use Rattle.frames.specs.declared.fault.Layer.TheVariants.{Text, Frame, Row, Table}

abbrev pub layer_name : Layer → List ℕ
layer_name Text = codes "text"
layer_name Frame = codes "frame"
layer_name Row = codes "row"
layer_name Table = codes "table"
