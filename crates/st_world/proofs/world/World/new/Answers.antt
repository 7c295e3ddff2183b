-- In the zero state each queue is empty, so no stamp occurs twice.
use Rattle.std.proofs.Common.{sym, subst}
use Rattle.st_core.specs.Laws.{HasStampsOnce}
use Rattle.st_core.proofs.ForCallers.{zero_once}
use Rattle.st_world.proofs.world.World.new.Goals as goal

pub invariant_of-result : goal.invariant_of-result
invariant_of-result g c _ =
    subst HasStampsOnce (sym c.in_ok-processes.ensures.zero) (zero_once c.args.pids.now)
