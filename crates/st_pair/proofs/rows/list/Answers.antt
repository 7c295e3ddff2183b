-- The next process's events are on the lines below its own.
use Rattle.st_pair.proofs.Listed.{process_listed}
use Rattle.st_pair.proofs.rows.list.Goals as goal

pub loop-pid-preserved : goal.loop-pid-preserved
loop-pid-preserved c =
    process_listed c.args.filter.now _ _ _ c.args.streams.now _ _ _ _ _ _ _
    c.pids-pid-items.ensures.streams.draft.rising c.pids-pid-items.ensures.value
    c.loop-pid-test.true
    c.events-events.ensures.value c.in_ok-first.ensures c.in_ok-line.ensures
    c.in_ok-add_rows.ensures
    c.loop-pid.invariant
