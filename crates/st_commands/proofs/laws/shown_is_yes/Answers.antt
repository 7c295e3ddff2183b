-- Acts that show the streams have the verdict yes, and bytes have one output.
use Rattle.st_commands.proofs.Meanings as meanings
use Rattle.st_commands.proofs.laws.shown_is_yes.Goals as goal

pub returns : goal.returns
returns c = meanings.shown_is_yes
