-- The fold goes on with the next process.
use Rattle.std.proofs.Common.{◌+◌, ◌∙◌, ap}
use Rattle.lack_acts.specs.Missing.{up_to_64_bits}
use Rattle.lack_acts.proofs.Counting.{streams_missing}
use Rattle.lack_acts.proofs.tallies.missing_in.Goals as goal

pub loop-pid-preserved : goal.loop-pid-preserved
loop-pid-preserved c =
    streams_missing _ _ _ c.args.streams.now _ _ _ _
    c.pids-pid-items.ensures.streams.draft.rising c.pids-pid-items.ensures.value
    c.loop-pid-test.true c.events.ensures.value
    (c.saturating_add-missing.ensures
    ∙ ap (λ n. up_to_64_bits (c.loop-pid.missing + n)) c.missing_from.ensures)
    c.loop-pid.invariant
