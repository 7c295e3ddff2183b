-- Each stream adds its starts after those of the streams before it.
use Rattle.std.proofs.Common.{◌∙◌}
use Rattle.node_hops.specs.Kept.{row_firsts}
use Rattle.st_pair.proofs.ForCallers.{process_passed}
use Rattle.node_hops.proofs.hops.all_row_firsts.Goals as goal

pub loop-pid-preserved : goal.loop-pid-preserved
loop-pid-preserved c =
    c.in_ok-push.ensures.items ∙ process_passed row_firsts c.args.streams.now _ _ _ _ _ _
    c.pids-pid-items.ensures.streams.draft.rising c.pids-pid-items.ensures.value
    c.loop-pid-test.true
    c.events.ensures.value (c.from_vec.ensures ∙ c.in_ok-list.ensures) c.loop-pid.invariant
