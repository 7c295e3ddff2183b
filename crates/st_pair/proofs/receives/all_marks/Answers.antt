-- Each stream adds its own marks after those of the streams before it.
use Rattle.std.proofs.Common.{◌∙◌}
use Rattle.st_pair.specs.Tables.{no_marks}
use Rattle.st_pair.proofs.StreamTables.{gathered}
use Rattle.st_pair.proofs.Marks.{blank_list}
use Rattle.st_pair.proofs.receives.all_marks.Goals as goal

pub loop-pid-preserved : goal.loop-pid-preserved
loop-pid-preserved c =
    c.in_ok-push.ensures.items ∙ gathered no_marks c.args.streams.now _ _ _ _ _ _
    c.pids-pid-items.ensures.streams.draft.rising c.pids-pid-items.ensures.value
    c.loop-pid-test.true
    c.events.ensures.value (blank_list _ _ c.in_ok-none.ensures.len c.in_ok-none.ensures.none)
    c.loop-pid.invariant
