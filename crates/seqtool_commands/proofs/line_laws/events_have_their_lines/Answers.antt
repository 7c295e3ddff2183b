-- The lemma says it.
use Rattle.seqtool_commands.proofs.LineTexts.{event_on_line}
use Rattle.seqtool_commands.proofs.line_laws.events_have_their_lines.Goals as goal

pub returns : goal.returns
returns c = event_on_line
