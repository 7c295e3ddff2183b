-- By induction over the run, from what a step keeps.
use Rattle.st_core.proofs.Sound as sound
use Rattle.st_core.proofs.laws.runs_stay_sound.Goals as goal

pub returns : goal.returns
returns c = sound.run_sound
