-- Each stream adds its own rows after those of the streams before it.
use Rattle.std.proofs.Common.{◌∙◌}
use Rattle.st_pair.specs.Tables.{rows_in}
use Rattle.st_pair.proofs.StreamTables.{gathered}
use Rattle.st_pair.proofs.stamp_table.all_rows.Goals as goal

pub loop-pid-preserved : goal.loop-pid-preserved
loop-pid-preserved c =
    c.in_ok-push.ensures.items ∙ gathered rows_in c.args.streams.now _ _ _ _ _ _
    c.pids-pid-items.ensures.streams.draft.rising c.pids-pid-items.ensures.value
    c.loop-pid-test.true
    c.events.ensures.value (c.from_vec.ensures ∙ c.in_ok-rows.ensures) c.loop-pid.invariant
