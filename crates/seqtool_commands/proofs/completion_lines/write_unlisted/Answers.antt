-- Each turn writes the line of the next process after those before.
use Rattle.std.proofs.Common.{refl}
use Rattle.st_text.proofs.ForCallers.{goes_still, one_more, one_failed, all_done, on_err}
use Rattle.seqtool_commands.specs.Lines.{unlisted_line}
use Rattle.seqtool_commands.proofs.completion_lines.write_unlisted.Goals as goal

pub loop-pid-init : goal.loop-pid-init
loop-pid-init g c = goes_still g.W.ByteSink.puts g.W.ByteSink.failed

pub loop-pid-preserved : goal.loop-pid-preserved
loop-pid-preserved g c =
    one_more g.W.ByteSink.puts g.W.ByteSink.failed unlisted_line c.args.pids.now
    c.loop-pid.pid-index
    _ c.loop-pid-test.true c.loop-pid.invariant c.in_ok-write_line.ensures

pub returns-in_err-write_line : goal.returns-in_err-write_line
returns-in_err-write_line g c =
    on_err _ _ _ _ c.from_residual.ensures.0
    (one_failed g.W.ByteSink.puts g.W.ByteSink.failed unlisted_line c.args.pids.now
    c.loop-pid.pid-index _ refl c.loop-pid-test.true c.loop-pid.invariant
    c.in_err-write_line.ensures)

pub returns : goal.returns
returns g c =
    all_done g.W.ByteSink.puts g.W.ByteSink.failed unlisted_line c.args.pids.now
    c.loop-pid.pid-index refl c.loop-pid-test.false c.loop-pid.invariant
