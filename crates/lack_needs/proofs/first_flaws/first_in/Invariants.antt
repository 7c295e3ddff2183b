-- No event taken so far has the flaw.
use Rattle.std.proofs.Common.{◌≡◌, drop, take}
use Rattle.st_pair.specs.Places.{first_from}
use Rattle.lack_needs.specs.Flaws.{left_by, test_of}
use Rattle.lack_needs.specs.Places.{place_where}
use Rattle.lack_needs.proofs.first_flaws.first_in.Given as goal

-- `left` is what these events leave, and the first flaw is that of the remaining ones
abbrev pub invariant-loop-i : goal.invariant-loop-i
invariant-loop-i l = record {
  left : l.left ≡ left_by (take l.i l.events);
  rest : first_from (place_where (test_of l.flaw) l.events) l.pid 0 l.events
      ≡ first_from (place_where (test_of l.flaw) l.events) l.pid l.i (drop l.i l.events);
}
