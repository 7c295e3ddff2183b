-- The lemma says it.
use Rattle.seqtool_commands.proofs.LineTexts.{act_on_line}
use Rattle.seqtool_commands.proofs.line_laws.acts_have_their_lines.Goals as goal

pub returns : goal.returns
returns c = act_on_line
