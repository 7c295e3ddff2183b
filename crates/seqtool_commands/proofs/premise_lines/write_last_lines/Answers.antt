-- The line about all runs goes first, and then the premises.
use Rattle.std.specs.List.{flat_map}
use Rattle.st_text.specs.Spelling.{ended_line}
use Rattle.st_text.proofs.ForCallers.{then_on, on_err, part_longer}
use Rattle.seqtool_commands.specs.Why.{all_premises, premise_line}
use Rattle.seqtool_commands.specs.WhyWords.{runs_words}
use Rattle.seqtool_commands.proofs.premise_lines.write_last_lines.Goals as goal

pub returns-in_err-write_line : goal.returns-in_err-write_line
returns-in_err-write_line g c =
    on_err _ _ _ _ c.from_residual.ensures.0
    (part_longer g.W.ByteSink.puts g.W.ByteSink.failed (ended_line runs_words)
    (flat_map (premise_line c.args.trace.now c.args.nodes.now) all_premises) _
    c.in_err-write_line.ensures)

pub returns : goal.returns
returns g c =
    then_on g.W.ByteSink.puts g.W.ByteSink.failed (ended_line runs_words)
    (flat_map (premise_line c.args.trace.now c.args.nodes.now) all_premises) _ _ _
    c.in_ok-write_line.ensures c.write_premises.ensures
