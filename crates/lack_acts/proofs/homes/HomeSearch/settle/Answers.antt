-- The search for a home puts no event in.
use Rattle.std.proofs.Common.{sym, subst}
use Rattle.lack_acts.specs.Insertions.{AreInsertions}
use Rattle.lack_acts.proofs.homes.HomeSearch.settle.Goals as goal

pub put_message-requires : goal.put_message-requires
put_message-requires c =
    subst (AreInsertions c.args.streams.now) (sym c.in_ok-home.ensures) c.requires
