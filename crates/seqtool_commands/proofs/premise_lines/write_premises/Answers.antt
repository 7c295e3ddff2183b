-- Each turn writes the line of the next premise after those before.
use Rattle.std.proofs.Common.{refl}
use Rattle.st_text.proofs.ForCallers.{goes_still, one_more, one_failed, all_done, on_err}
use Rattle.seqtool_commands.specs.Why.{premise_line}
use Rattle.seqtool_commands.proofs.premise_lines.write_premises.Goals as goal

pub loop-premise-init : goal.loop-premise-init
loop-premise-init g c = goes_still g.W.ByteSink.puts g.W.ByteSink.failed

pub loop-premise-preserved : goal.loop-premise-preserved
loop-premise-preserved g c =
    one_more g.W.ByteSink.puts g.W.ByteSink.failed
    (premise_line c.args.trace.now c.args.nodes.now) c.args.premises.now
    c.loop-premise.premise-index
    _ c.loop-premise-test.true c.loop-premise.invariant c.in_ok-write_premise.ensures

pub returns-in_err-write_premise : goal.returns-in_err-write_premise
returns-in_err-write_premise g c =
    on_err _ _ _ _ c.from_residual.ensures.0
    (one_failed g.W.ByteSink.puts g.W.ByteSink.failed
    (premise_line c.args.trace.now c.args.nodes.now) c.args.premises.now
    c.loop-premise.premise-index _ refl c.loop-premise-test.true c.loop-premise.invariant
    c.in_err-write_premise.ensures)

pub returns : goal.returns
returns g c =
    all_done g.W.ByteSink.puts g.W.ByteSink.failed
    (premise_line c.args.trace.now c.args.nodes.now) c.args.premises.now
    c.loop-premise.premise-index refl c.loop-premise-test.false c.loop-premise.invariant
