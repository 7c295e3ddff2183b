-- A step maps each process to itself if its act doesn't touch it.
use Rattle.st_core.proofs.Others as others
use Rattle.st_core.proofs.laws.untouched_stay.Goals as goal

pub returns : goal.returns
returns c = others.leaves_others
