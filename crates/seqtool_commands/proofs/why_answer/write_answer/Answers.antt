-- The lines of the nodes go first, and then the last lines.
use Rattle.std.specs.List.{flat_map}
use Rattle.st_text.proofs.ForCallers.{then_on, on_err, part_longer}
use Rattle.seqtool_commands.specs.Why.{last_lines, node_line}
use Rattle.seqtool_commands.proofs.why_answer.write_answer.Goals as goal

pub returns-in_err-write_nodes : goal.returns-in_err-write_nodes
returns-in_err-write_nodes g c =
    let lines = flat_map (node_line c.args.trace.now c.args.question) c.args.nodes.now in
    on_err _ _ _ _ c.from_residual.ensures.0
    (part_longer g.W.ByteSink.puts g.W.ByteSink.failed lines
    (last_lines c.args.trace.now c.args.nodes.now) _ c.in_err-write_nodes.ensures)

pub returns : goal.returns
returns g c =
    let lines = flat_map (node_line c.args.trace.now c.args.question) c.args.nodes.now in
    then_on g.W.ByteSink.puts g.W.ByteSink.failed lines
    (last_lines c.args.trace.now c.args.nodes.now) _ _ _
    c.in_ok-write_nodes.ensures c.write_last_lines.ensures
