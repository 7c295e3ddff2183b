-- So far these are the links of the streams that were taken.
use Rattle.std.proofs.Common.{◌≡◌, map, take}
use Rattle.st_pair.specs.Tables.{links_back}
use Rattle.st_pair.proofs.links.Sources.of.Given as goal

abbrev pub invariant-loop-pid : goal.invariant-loop-pid
invariant-loop-pid l = record {
  links : l.links.items ≡ map (links_back l.streams) (take l.pid-index l.streams);
  sent : l.sent ≡ l.initial.sent;
}
