use Rattle.std.proofs.Common.{◌+◌, ◌*◌, ◌∷◌, min, sym, ap, ◌∙◌, arith}
use Rattle.model.specs.Demand.{caps_by}
use Rattle.outside.proofs.Windows.{ready_at, within, beyond}
use Rattle.outside.proofs.pen.Pen.from_later.Goals as goal

pub returns-in-Some : goal.returns-in-Some
returns-in-Some c = record {
  value = λ p ps e.
      let s = c.args.self.now.stroke in
      let ready = ready_at c.args.first s p ps c.requires e in
      let caps = c.min.ensures ∙ ap (min (3 * s)) (c.caps_by.ensures.value ∙ ap (caps_by 60) e) in
      beyond s p ps c.args.length.value _ _ _ (omega (arith, ready, c.in-Some.ensures.0)) (omega (arith, ready, c.in-Some.ensures.1)) caps c.from_wake.ensures.value;
  top = omega (arith, c.min.ensures, c.from_wake.ensures.top);
}

pub returns-in-None : goal.returns-in-None
returns-in-None c = record {
  value = λ p ps e.
      let s = c.args.self.now.stroke in
      let ready = ready_at c.args.first s p ps c.requires e in
      let caps = c.min-in-None.ensures ∙ ap (min (3 * s)) (c.caps_by-in-None.ensures.value ∙ ap (caps_by _) e) in
      within s p ps c.args.length.value _ _ (omega (arith, ready, c.in-None.ensures)) c.value.ensures (caps ∙ ap (λ r. min (3 * s) (caps_by (r + c.value.result) (p ∷ ps))) (sym ready));
  top = omega (arith, c.min-in-None.ensures);
}
