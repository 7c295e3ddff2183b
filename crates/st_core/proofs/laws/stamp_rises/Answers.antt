-- A stamp puts last before the clock that it lifts by one.
use Rattle.st_core.proofs.Sound as sound
use Rattle.st_core.proofs.laws.stamp_rises.Goals as goal

pub returns : goal.returns
returns c = λ top p l m t ordered h is. (sound.stamp_sound top p l m ordered h).token t is
