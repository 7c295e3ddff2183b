-- Status 1 belongs to a no alone, and acts that show the streams have the verdict yes.
use Rattle.st_commands.proofs.Meanings as meanings
use Rattle.st_commands.proofs.laws.no_means.Goals as goal

pub returns : goal.returns
returns c = meanings.no_means
