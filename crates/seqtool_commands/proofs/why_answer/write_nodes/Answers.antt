-- Each turn writes the line of the next node after those before.
use Rattle.std.proofs.Common.{refl}
use Rattle.st_text.proofs.ForCallers.{goes_still, one_more, one_failed, all_done, on_err}
use Rattle.seqtool_commands.specs.Why.{node_line}
use Rattle.seqtool_commands.proofs.why_answer.write_nodes.Goals as goal

pub loop-node-init : goal.loop-node-init
loop-node-init g c = goes_still g.W.ByteSink.puts g.W.ByteSink.failed

pub loop-node-preserved : goal.loop-node-preserved
loop-node-preserved g c =
    one_more g.W.ByteSink.puts g.W.ByteSink.failed
    (node_line c.args.trace.now c.args.question) c.args.nodes.now c.loop-node.node-index
    _ c.loop-node-test.true c.loop-node.invariant c.in_ok-write_node.ensures

pub returns-in_err-write_node : goal.returns-in_err-write_node
returns-in_err-write_node g c =
    on_err _ _ _ _ c.from_residual.ensures.0
    (one_failed g.W.ByteSink.puts g.W.ByteSink.failed
    (node_line c.args.trace.now c.args.question) c.args.nodes.now
    c.loop-node.node-index _ refl c.loop-node-test.true c.loop-node.invariant
    c.in_err-write_node.ensures)

pub returns : goal.returns
returns g c =
    all_done g.W.ByteSink.puts g.W.ByteSink.failed
    (node_line c.args.trace.now c.args.question) c.args.nodes.now
    c.loop-node.node-index refl c.loop-node-test.false c.loop-node.invariant
