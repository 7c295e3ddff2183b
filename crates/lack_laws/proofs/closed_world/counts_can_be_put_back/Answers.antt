-- The count at the place of a rank is the count that was ranked, since counts are listed once,
-- rising.
use Rattle.lack_laws.proofs.Ranks.{counts_put_back, ranks_keep_order}
use Rattle.lack_laws.proofs.closed_world.counts_can_be_put_back.Goals as goal

pub returns : goal.returns
returns c = λ streams. (ranks_keep_order streams, counts_put_back streams)
