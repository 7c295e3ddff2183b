-- The text spells the streams and acts, whose verdict is the yes.
use Rattle.st_commands.proofs.Findings as findings
use Rattle.st_commands.proofs.laws.certificate_is_yes.Goals as goal

pub returns : goal.returns
returns c = findings.certificate_is_yes
