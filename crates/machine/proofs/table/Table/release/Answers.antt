use Rattle.std.proofs.Common.{◌≡◌, ℕ, ◌<◌, List, get_or, Some, None, sym, ◌∙◌, subst, arith}
use Rattle.machine.specs.declared.entry.Entry.{Entry}
use Rattle.machine.specs.Lines.{held_pick}
use Rattle.machine.specs.Events.{released}
use Rattle.machine.specs.Keys.{held_key}
use Rattle.machine.specs.Views.{blank}
use Rattle.machine.proofs.Tables.{front_key}
use Rattle.machine.proofs.Releases.{release_step, release_done}
use Rattle.machine.proofs.table.Table.release.Goals as goal

pub returns-then-at-first-clause-entries : goal.returns-then-at-first-clause-entries
returns-then-at-first-clause-entries c =
    let t = c.loop-first.self in
    let s = c.args.self.now in
    release_done c.args.at s.count s.entries t (Some (held_pick c.in-Some.first)) c.loop-first.invariant.0 c.in-Some.ensures.least c.if-at-first.true c.loop-first.invariant.1

pub loop-first-preserved : goal.loop-first-preserved
loop-first-preserved c =
    let t = c.loop-first.self in
    let s = c.args.self.now in
    let x = held_pick c.in-Some.first in
    let e = c.in-Some.ensures in
    let at = c.args.at in (
      c.promote.ensures.count ∙ c.loop-first.invariant.0,
      subst (λ (es : List Entry). (i : ℕ) → i < s.count → released at (get_or es i blank) ≡ released at (get_or s.entries i blank)) (sym c.promote.ensures.entries)
          (release_step at s.count s.entries t.entries x.number x.key (omega (arith, e.within, t.few, t.long)) (front_key t held_key x e.least e.within) c.if-at-first.false c.loop-first.invariant.1),
    )

pub returns-clause-entries : goal.returns-clause-entries
returns-clause-entries c =
    let t = c.loop-first.self in
    let s = c.args.self.now in
    release_done c.args.at s.count s.entries t None c.loop-first.invariant.0 c.in_default.ensures.least tt c.loop-first.invariant.1
