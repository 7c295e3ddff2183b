-- No event of the streams taken so far has the flaw.
use Rattle.std.proofs.Common.{◌≡◌, drop}
use Rattle.st_pair.specs.Places.{first}
use Rattle.lack_needs.specs.Places.{flaw_place}
use Rattle.lack_needs.specs.Flaws.{test_of}
use Rattle.lack_needs.proofs.first_flaws.first_flaw.Given as goal

-- so the first flaw of all streams is that of the remaining ones
abbrev pub invariant-loop-pid : goal.invariant-loop-pid
invariant-loop-pid l = first (flaw_place (test_of l.flaw) l.streams) l.streams
    ≡ first (flaw_place (test_of l.flaw) l.streams) (drop l.pid-index l.streams)
