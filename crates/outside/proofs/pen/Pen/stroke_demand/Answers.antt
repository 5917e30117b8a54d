use Rattle.std.proofs.Common.{[], refl, arith}
use Rattle.model.specs.Demand.{demand}
use Rattle.model.proofs.Demand.Windows.{piece_first}
use Rattle.model.specs.Rows.{piece}
use Rattle.outside.specs.Pen.{stroke_task, drawn, stored, stroke_lawful}
use Rattle.outside.proofs.pen.Pen.stroke_demand.Goals as goal

pub returns : goal.returns
unfolding demand
returns c =
    let s = c.args.self.now.stroke in
    let first = piece_first (stroke_task s) (stroke_lawful s c.args.self.now.ok.1) (piece 0 10 s) (drawn s) c.args.length.value refl (omega arith) in
    record {
      value = omega (arith, first, c.from_wake.ensures.value, c.from_later.ensures.value (piece 20 30 s) (stored s) refl, c.from_later-2.ensures.value (piece 40 60 s) [] refl, c.max.ensures, c.max-later.ensures);
      top = omega (arith, c.max.ensures, c.max-later.ensures);
    }
