-- No event of the streams taken so far is unfounded.
use Rattle.std.proofs.Common.{◌≡◌, drop}
use Rattle.st_pair.specs.Places.{first}
use Rattle.lack_needs.specs.Places.{flaw_place}
use Rattle.lack_needs.specs.Unfounded.{is_unfounded}
use Rattle.lack_needs.proofs.unfounded_stamps.first_unfounded.Given as goal

-- so the first unfounded event of all streams is that of the remaining ones
abbrev pub invariant-loop-pid : goal.invariant-loop-pid
invariant-loop-pid l = first (flaw_place (is_unfounded l.streams) l.streams) l.streams
    ≡ first (flaw_place (is_unfounded l.streams) l.streams) (drop l.pid-index l.streams)
