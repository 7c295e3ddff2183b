-- Each stream adds its partners after those of the streams before it.
use Rattle.std.proofs.Common.{◌∙◌, ap}
use Rattle.node_streams.specs.Messages.{partners}
use Rattle.st_pair.proofs.ForCallers.{process_passed}
use Rattle.node_hops.proofs.hops.all_partners.Goals as goal

pub loop-pid-preserved : goal.loop-pid-preserved
loop-pid-preserved c =
    c.in_ok-push.ensures.items
    ∙ process_passed (partners c.args.streams.now) c.args.streams.now _ _ _ _ _ _
    c.pids-pid-items.ensures.streams.draft.rising c.pids-pid-items.ensures.value
    c.loop-pid-test.true
    c.events.ensures.value (c.from_vec.ensures ∙ c.in_ok-list.ensures
    ∙ ap (λ s. partners s c.events.result.now) c.requires) c.loop-pid.invariant
