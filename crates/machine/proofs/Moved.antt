-- What an event makes of a good entry is good.
use Rattle.std.proofs.Common.{ℕ, ◌+◌, ◌*◌, ◌≤◌, eqb, leb, Option, arith}
use Rattle.std.proofs.lemmas.Bool.{cond_both, leb-false, eqb-false}
use Rattle.model.specs.Machine as model
use Rattle.machine.specs.declared.numbers.Numbers.{Numbers}
use Rattle.machine.specs.declared.entry.Phase.{Phase}
use Rattle.machine.specs.declared.entry.Phase.TheVariants.{Rest, Ready, Held}
use Rattle.machine.specs.declared.entry.Event.{Event}
use Rattle.machine.specs.declared.entry.Event.TheVariants.{Wake, End, Tick, Release}
use Rattle.machine.specs.declared.entry.Entry.{Entry}
use Rattle.machine.specs.Events.{limit_at, followed, moved_in, moved, GoodPhase, GoodEntry, event_at}
use Rattle.machine.specs.Views.{piece_at}

follow_good : (n : Numbers) (last : Option ℕ) (p now b : ℕ) → p ≤ n.count → b ≤ p * 1000000000000000 → GoodPhase n b (followed n last p now)
follow_good n last p now b l h = cond_both (eqb p n.count) _ _ (GoodPhase n b)
    (λ e. (omega arith, omega arith, omega arith))
    (λ e. let ne = eqb-false p n.count e in cond_both (leb (model.since last (piece_at n p).ready) now) _ _ (GoodPhase n b)
    (λ e. (omega (arith, ne), omega arith, omega arith))
    (λ e. (omega (arith, ne), omega arith, omega arith)))

good_in : (e : Entry) (f : Phase) (ev : Event) → GoodEntry e → GoodPhase e.task e.before f → event_at ev ≤ 1000000000000000 → GoodEntry (moved_in e f ev)
good_in e Rest (Wake now) g p h = ((omega arith, omega arith, omega arith), omega arith)
good_in e Rest (End now) g p h = g
good_in e Rest (Tick now) g p h = g
good_in e Rest Release g p h = g
good_in e (Ready q r) (Wake now) g p h = g
good_in e (Ready q r) (End now) g p h = (follow_good e.task e.last (q + 1) now (e.before + r) (omega arith) (omega arith), g.1)
good_in e (Ready q r) (Tick now) g p h = cond_both (leb (limit_at e.task e.before q) (r + 1)) _ _ GoodEntry
    (λ t. (follow_good e.task e.last (q + 1) now (e.before + (r + 1)) (omega arith) (omega arith), g.1))
    (λ t. let l = leb-false _ _ t in ((p.0, omega (arith, e.task.caps q p.0), p.2), g.1))
good_in e (Ready q r) Release g p h = g
good_in e (Held q) (Wake now) g p h = g
good_in e (Held q) (End now) g p h = g
good_in e (Held q) (Tick now) g p h = g
good_in e (Held q) Release g p h = ((p.0, omega arith, p.2), g.1)

pub good_moved : (e : Entry) (ev : Event) → GoodEntry e → event_at ev ≤ 1000000000000000 → GoodEntry (moved e ev)
good_moved e ev g h = good_in e e.phase ev g g.0 h
