-- Each turn of the loop moves the rows of one process from what is left to the rows so far.
use Rattle.st_order.proofs.PassedRows.{rows_passed}
use Rattle.st_order.proofs.row.rows.Goals as goal

pub loop-pid-preserved : goal.loop-pid-preserved
loop-pid-preserved c =
    rows_passed c.args.streams.now _ _ _ _ _ _ c.pids-pid-items.ensures.streams.draft.rising
    c.pids-pid-items.ensures.value c.loop-pid-test.true c.events.ensures.value
    c.in_ok-put_rows.ensures c.loop-pid.invariant
