-- A record's acts show its streams.
use Rattle.st_commands.proofs.Drives as drives
use Rattle.st_commands.proofs.laws.recorded_is_yes.Goals as goal

pub returns : goal.returns
returns c = drives.recorded_is_yes
