-- If no hop rests on the premise there is no line.
use Rattle.std.proofs.Common.{◌∙◌, sym}
use Rattle.st_text.proofs.ForCallers.{goes_still}
use Rattle.seqtool_commands.proofs.WhyAnswers.{no_line}
use Rattle.seqtool_commands.proofs.premise_lines.write_premise.Goals as goal

pub returns-else-is_used : goal.returns-else-is_used
returns-else-is_used g c =
    rw (no_line c.args.trace.now c.args.nodes.now c.args.premise
    (sym c.is_used.ensures ∙ c.if-is_used.false))
    (goes_still g.W.ByteSink.puts g.W.ByteSink.failed)
