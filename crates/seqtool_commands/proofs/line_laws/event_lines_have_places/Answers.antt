-- The lemma says it.
use Rattle.seqtool_commands.proofs.LineTexts.{line_has_event}
use Rattle.seqtool_commands.proofs.line_laws.event_lines_have_places.Goals as goal

pub returns : goal.returns
returns c = line_has_event
