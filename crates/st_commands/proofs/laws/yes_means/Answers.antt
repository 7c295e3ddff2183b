-- Status 0 belongs to a yes alone.
use Rattle.st_commands.proofs.Meanings as meanings
use Rattle.st_commands.proofs.laws.yes_means.Goals as goal

pub returns : goal.returns
returns c = meanings.yes_means
