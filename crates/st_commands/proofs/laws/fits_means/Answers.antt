-- Status 0 belongs to a certificate alone.
use Rattle.st_commands.proofs.Findings as findings
use Rattle.st_commands.proofs.laws.fits_means.Goals as goal

pub returns : goal.returns
returns c = findings.fits_means
