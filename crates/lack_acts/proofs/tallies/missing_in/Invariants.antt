-- The fold over the remaining streams, from what is missing so far, is that over all.
use Rattle.std.proofs.Common.{◌≡◌, drop}
use Rattle.lack_acts.specs.Missing.{missing_in}
use Rattle.lack_acts.proofs.tallies.missing_in.Given as goal

abbrev pub invariant-loop-pid : goal.invariant-loop-pid
invariant-loop-pid l = missing_in l.missing (drop l.pid-index l.fn.streams)
    ≡ missing_in 0 l.fn.streams
