-- Each turn writes the next line after those before.
use Rattle.std.proofs.Common.{refl}
use Rattle.st_commands.specs.Output.{pair_line}
use Rattle.st_text.proofs.ForCallers.{goes_still, one_more, one_failed, all_done, on_err}
use Rattle.st_commands.proofs.lines.write_pairs.Goals as goal

pub loop-pair-init : goal.loop-pair-init
loop-pair-init g c = goes_still g.W.ByteSink.puts g.W.ByteSink.failed

pub loop-pair-preserved : goal.loop-pair-preserved
loop-pair-preserved g c =
    one_more g.W.ByteSink.puts g.W.ByteSink.failed pair_line c.args.pairs.now c.loop-pair.pair-index
    _ c.loop-pair-test.true c.loop-pair.invariant c.in_ok-write_line.ensures

pub returns-in_err-write_line : goal.returns-in_err-write_line
returns-in_err-write_line g c =
    on_err _ _ _ _ c.from_residual.ensures.0
    (one_failed g.W.ByteSink.puts g.W.ByteSink.failed pair_line c.args.pairs.now
    c.loop-pair.pair-index _ refl
    c.loop-pair-test.true c.loop-pair.invariant c.in_err-write_line.ensures)

pub returns : goal.returns
returns g c =
    all_done g.W.ByteSink.puts g.W.ByteSink.failed pair_line c.args.pairs.now c.loop-pair.pair-index
    refl c.loop-pair-test.false c.loop-pair.invariant
