-- The pids with the links of all streams are the pairing.
use Rattle.st_pair.proofs.Linkage.{rows_linked}
use Rattle.st_pair.proofs.pairing.pairing_of.Goals as goal

pub returns : goal.returns
returns c =
    let streams = c.args.streams.now in
    rw (c.in_ok-pids.ensures, c.requires) (rows_linked streams streams)
