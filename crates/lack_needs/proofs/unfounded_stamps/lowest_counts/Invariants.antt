-- The lowest counts noted so far are those of the processes taken so far.
use Rattle.std.proofs.Common.{take, None}
use Rattle.st_core.specs.Run.{pids_of}
use Rattle.lack_needs.specs.Unfounded.{lowest_from, IsNoted}
use Rattle.lack_needs.proofs.unfounded_stamps.lowest_counts.Given as goal

abbrev pub invariant-loop-pid : goal.invariant-loop-pid
invariant-loop-pid l = IsNoted (pids_of l.fn.streams)
    (λ q. lowest_from q None (take l.pid-index l.fn.streams)) l.lows.items
