use Rattle.std.proofs.Common.{◌+◌, ap}
use Rattle.machine.specs.Events.{released}
use Rattle.machine.specs.Views.{task_of, progress_of}
use Rattle.machine.specs.Calls.{state_of}
use Rattle.machine.proofs.Ticks.{seen_same, released_progress, released_task}
use Rattle.machine.proofs.clock.Core.pass.Goals as goal

pub returns : goal.returns
returns c =
    let s = c.args.self.now in
    let t = c.release.new.self in
    let at = s.now + 1 in
    let told = c.release.ensures in
    record {
      state = ap (λ g. record { now = at; miss = (state_of s).miss; progress = g }) (seen_same progress_of s.table t (released _) (released_progress _) told.count told.entries);
      tasks = seen_same task_of s.table t (released _) (released_task _) told.count told.entries;
    }
