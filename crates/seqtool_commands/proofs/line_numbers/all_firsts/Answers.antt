-- Each process adds its first line after those of the processes before it.
use Rattle.seqtool_commands.proofs.LineFirsts.{all_so_far, so_far_more}
use Rattle.seqtool_commands.proofs.line_numbers.all_firsts.Goals as goal

pub loop-pid-preserved : goal.loop-pid-preserved
loop-pid-preserved c =
    so_far_more c.args.streams.now c.pids-pid-items.result.now c.loop-pid.pid-index _
    c.loop-pid.firsts.items
    c.push.new.self.items c.loop-pid.first c.in_ok-first.first c.len.result
    c.pids-pid-items.ensures.streams.draft.rising c.pids-pid-items.ensures.value
    c.loop-pid-test.true c.len.ensures
    c.in_ok-first.ensures.value c.in_ok-first.ensures.fits c.in_ok-push.ensures.items
    c.loop-pid.invariant

pub returns : goal.returns
returns c =
    all_so_far c.args.streams.now c.pids-pid-items.result.now c.loop-pid.pid-index
    c.loop-pid.firsts.items
    c.loop-pid.first c.pids-pid-items.ensures.streams c.pids-pid-items.ensures.value
    c.loop-pid-test.false
    c.loop-pid.invariant
