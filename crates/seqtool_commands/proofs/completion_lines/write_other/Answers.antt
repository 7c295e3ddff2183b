-- Three reasons name no other event, so they add nothing.
use Rattle.std.proofs.Common.{ap}
use Rattle.st_text.proofs.ForCallers.{goes_still}
use Rattle.seqtool_commands.specs.Lines.{other_line}
use Rattle.seqtool_commands.proofs.completion_lines.write_other.Goals as goal

pub returns-in-PrevNotBefore : goal.returns-in-PrevNotBefore
returns-in-PrevNotBefore g c =
    rw (ap (other_line c.args.streams.now c.args.pid) c.in-PrevNotBefore.is)
    (goes_still g.W.ByteSink.puts g.W.ByteSink.failed)

pub returns-in-Unfounded : goal.returns-in-Unfounded
returns-in-Unfounded g c =
    rw (ap (other_line c.args.streams.now c.args.pid) c.in-Unfounded.is)
    (goes_still g.W.ByteSink.puts g.W.ByteSink.failed)

pub returns-in-TooHigh : goal.returns-in-TooHigh
returns-in-TooHigh g c =
    rw (ap (other_line c.args.streams.now c.args.pid) c.in-TooHigh.is)
    (goes_still g.W.ByteSink.puts g.W.ByteSink.failed)
