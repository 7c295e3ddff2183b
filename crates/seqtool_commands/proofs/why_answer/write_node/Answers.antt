-- A node without an event has no line.
use Rattle.std.proofs.Common.{◌∙◌, sym, Some, None}
use Rattle.st_text.proofs.ForCallers.{goes_still}
use Rattle.seqtool_commands.proofs.WhyAnswers.{line_of}
use Rattle.seqtool_commands.proofs.why_answer.write_node.Goals as goal

pub returns-in-None : goal.returns-in-None
returns-in-None g c =
    rw (line_of c.args.trace.now c.args.question c.args.node None
    (sym c.event.ensures ∙ c.in-None.is))
    (goes_still g.W.ByteSink.puts g.W.ByteSink.failed)

pub returns-in-Some : goal.returns-in-Some
returns-in-Some g c =
    rw (line_of c.args.trace.now c.args.question c.args.node (Some c.in-Some.event)
    (sym c.event.ensures ∙ c.in-Some.is)) c.write_text.ensures
