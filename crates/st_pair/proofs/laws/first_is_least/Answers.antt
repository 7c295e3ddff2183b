-- The first place, process by process and event by event, is the least, since pids and indexes
-- rise.
use Rattle.st_pair.proofs.Leasts.{first_least}
use Rattle.st_pair.proofs.laws.first_is_least.Goals as goal

pub returns : goal.returns
returns c = λ rule streams fault sound given. first_least rule streams fault sound.draft.rising
    given
