-- Rising pids occur once, so each pid is new to the set and joins it at its end.
use Rattle.std.proofs.Common.{get_or, ◌∙◌, ap}
use Rattle.indexmap.specs.IndexSet.{insert_key}
use Rattle.st_core.specs.declared.types.Pid.{Pid}
use Rattle.st_core.specs.Pid.{pid_eq}
use Rattle.st_world.proofs.Pids.{insert_next}
use Rattle.st_world.proofs.numbers.set_of.Goals as goal

pub loop-pid-preserved : goal.loop-pid-preserved
loop-pid-preserved c =
    let none : Pid = record { node = 0; number = 0 } in
    c.in-Ok.ensures.keys
    ∙ ap (λ keys. insert_key pid_eq keys (get_or c.args.pids.now c.loop-pid.pid-index none))
    c.loop-pid.invariant
    ∙ insert_next c.args.pids.now c.loop-pid.pid-index none c.requires c.loop-pid-test.true
