-- So far the links of the events that were taken are filled in, and none of them is a receive
-- that differs from its send.
use Rattle.std.proofs.Common.{◌≡◌, ◌++◌, map, take, drop}
use Rattle.st_pair.specs.Links.{link_of}
use Rattle.st_pair.specs.Pairing.{mismatch}
use Rattle.st_pair.specs.Places.{first_from}
use Rattle.st_pair.specs.Tables.{link_back}
use Rattle.st_pair.proofs.pairing.fill_in.Given as goal

abbrev pub invariant-loop-i : goal.invariant-loop-i
invariant-loop-i l = record {
  links : l.links ≡ map (link_of l.streams l.pid) (take l.i l.events)
      ++ map (link_back l.streams) (drop l.i l.events);
  matched : first_from (mismatch l.streams) l.pid 0 l.events
      ≡ first_from (mismatch l.streams) l.pid l.i (drop l.i l.events);
}
