-- The serial of every report rises, so no run reports an event whose serial doesn't.
use Rattle.st_pair.specs.declared.answer.PairFault.TheVariants as fault
use Rattle.st_pair.proofs.FinalReasons.{prev_never_shown}
use Rattle.st_pair.proofs.laws.prev_not_before_is_final.Goals as goal

pub returns : goal.returns
returns c = λ streams p i refused. prev_never_shown streams (fault.PrevNotBefore p i) refused tt
