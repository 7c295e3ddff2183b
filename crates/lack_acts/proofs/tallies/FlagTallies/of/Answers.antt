-- The fold goes on with the next process, and in the end none is left.
use Rattle.std.proofs.Common.{sym, ◌∙◌, ap}
use Rattle.lack_acts.specs.Tallies.{counted_whole}
use Rattle.lack_acts.proofs.Counting.{none_left, wholes_counted}
use Rattle.lack_acts.proofs.tallies.FlagTallies.of.Goals as goal

pub loop-process-preserved : goal.loop-process-preserved
loop-process-preserved c =
    wholes_counted _ c.loop-process.tallies _ c.args.streams.now c.args.marks.now _
    c.loop-process.process _ _ _ c.pids-pid-items.ensures.streams.draft.rising
    c.pids-pid-items.ensures.value c.loop-process-test.true c.events.ensures.value
    c.marks_at.ensures c.count_process.ensures c.loop-process.invariant

pub returns : goal.returns
returns c =
    sym (ap (counted_whole c.loop-process.tallies) (none_left c.args.streams.now c.args.marks.now _
    c.loop-process.process c.pids-pid-items.ensures.value c.loop-process-test.false))
    ∙ c.loop-process.invariant
