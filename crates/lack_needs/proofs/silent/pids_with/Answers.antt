-- The sorted pids of the streams and the others are those of the longer streams, which rise.
use Rattle.std.proofs.Common.{rules}
use Rattle.lack_needs.proofs.SilentPids.{silent_pids}
use Rattle.lack_needs.proofs.silent.pids_with.Goals as goal

pub returns : goal.returns
returns c = silent_pids c.args.streams.now c.pids.ensures.streams c.args.others.now _ _
    c.requires.apart c.requires.rising (search rules) c.in_ok-sort.ensures.permutation
    c.in_ok-sort.ensures.sorted
