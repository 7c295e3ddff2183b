-- The flush writes all that waits in the buffer.
use Rattle.st_text.proofs.ForCallers.{finishes}
use Rattle.seqtool_commands.specs.Why.{answer_lines}
use Rattle.seqtool_commands.proofs.WhyAnswers.{answer_some}
use Rattle.seqtool_commands.proofs.why_answer.send_answer.Goals as goal

pub returns : goal.returns
returns g c =
    let q = c.args.question in
    finishes g.W.ByteSink.puts g.W.ByteSink.failed
    (answer_lines c.args.trace.now q c.args.nodes.now) _ _
    c.flush.result (answer_some c.args.trace.now q c.args.nodes.now)
    (rw c.new-buffer.ensures at c.in_ok-write_answer.ensures) c.flush.ensures.goes
    c.flush.ensures.empty
