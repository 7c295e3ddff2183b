-- No event taken so far is unfounded.
use Rattle.std.proofs.Common.{◌≡◌, drop, take}
use Rattle.st_pair.specs.Places.{first_from}
use Rattle.lack_needs.specs.Places.{place_where}
use Rattle.lack_needs.specs.Unfounded.{has_receive, is_unfounded}
use Rattle.lack_needs.proofs.unfounded_stamps.first_in.Given as goal

-- `received` says whether one of them is a receive, and the first unfounded event is that of the
-- remaining ones
abbrev pub invariant-loop-i : goal.invariant-loop-i
invariant-loop-i l = record {
  received : l.received ≡ has_receive (take l.i l.events);
  rest : first_from (place_where (is_unfounded l.streams) l.events) l.pid 0 l.events
      ≡ first_from (place_where (is_unfounded l.streams) l.events) l.pid l.i (drop l.i l.events);
}
