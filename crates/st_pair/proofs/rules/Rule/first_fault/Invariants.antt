-- The rule gives nothing in the streams that were taken.
use Rattle.std.proofs.Common.{◌≡◌, drop}
use Rattle.st_pair.specs.Places.{first}
use Rattle.st_pair.specs.Rules.{fault_at}
use Rattle.st_pair.proofs.rules.Rule.first_fault.Given as goal

-- the first fault of all is in the streams left
abbrev pub invariant-loop-pid : goal.invariant-loop-pid
invariant-loop-pid l = first (fault_at l.self l.streams) l.streams
    ≡ first (fault_at l.self l.streams) (drop l.pid-index l.streams)
