-- The sum so far is that of the processes taken so far.
use Rattle.std.proofs.Common.{◌≡◌, ◌+◌, [], sum_by, take}
use Rattle.st_core.specs.Run.{pids_of}
use Rattle.st_core.specs.Streams.{events_of}
use Rattle.lack_decide.specs.Bounds.{acts_after, saturated}
use Rattle.lack_decide.proofs.bounds.act_bound.Given as goal

abbrev pub invariant-loop-pid : goal.invariant-loop-pid
invariant-loop-pid l = l.count
    ≡ saturated (sum_by (λ p. 1 + acts_after [] (events_of l.streams p))
    (take l.pid-index (pids_of l.streams)))
