-- Each stream adds its own backs after those of the streams before it.
use Rattle.std.proofs.Common.{◌∙◌}
use Rattle.st_pair.proofs.ForCallers.{process_passed}
use Rattle.st_chain.proofs.receives.all_backs.Goals as goal
use Rattle.st_chain.specs.Causes.{backs_from}

pub loop-pid-preserved : goal.loop-pid-preserved
loop-pid-preserved c =
    c.in_ok-push.ensures.items ∙ process_passed (λ es. backs_from es 0 es) c.args.streams.now _ _ _
    _ _ _
    c.pids-pid-items.ensures.streams.draft.rising c.pids-pid-items.ensures.value
    c.loop-pid-test.true
    c.events.ensures.value (c.from_vec.ensures ∙ c.in_ok-list.ensures) c.loop-pid.invariant
