-- Status 0 belongs to a record alone.
use Rattle.st_commands.proofs.Drives as drives
use Rattle.st_commands.proofs.laws.driven_means.Goals as goal

pub returns : goal.returns
returns c = drives.driven_means
