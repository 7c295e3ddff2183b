-- A receive and a send have each other if sender, count, label and value agree, whichever of the
-- two is asked.
use Rattle.st_pair.proofs.AcceptedEvents.{paired}
use Rattle.st_pair.proofs.Converse.{source_from_receiver, receiver_from_source}
use Rattle.st_pair.proofs.laws.sources_and_receivers_agree.Goals as goal

pub returns : goal.returns
returns c = λ streams sound accepted p i q j. (
  source_from_receiver streams sound.draft.rising (paired streams accepted) p i q j,
  receiver_from_source streams sound.draft.rising (paired streams accepted) p i q j,
)
