-- Status 1 belongs to an event and a reason alone.
use Rattle.st_commands.proofs.Findings as findings
use Rattle.st_commands.proofs.laws.unfit_means.Goals as goal

pub returns : goal.returns
returns c = findings.unfit_means
