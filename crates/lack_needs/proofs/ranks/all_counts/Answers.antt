-- The counts of a process come after those of the processes before it.
use Rattle.lack_needs.proofs.Counted.{process_noted}
use Rattle.lack_needs.proofs.ranks.all_counts.Goals as goal

pub loop-pid-preserved : goal.loop-pid-preserved
loop-pid-preserved c =
    process_noted _ _ _ c.args.streams.now _ _ _ _ c.pids-pid-items.ensures.streams.draft.rising
    c.pids-pid-items.ensures.value c.loop-pid-test.true c.events.ensures.value
    c.in_ok-note_counts.ensures
    c.loop-pid.invariant
