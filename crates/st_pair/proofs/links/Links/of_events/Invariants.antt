-- So far these are the links of the events that were taken.
use Rattle.std.proofs.Common.{◌≡◌, map, take}
use Rattle.st_pair.specs.Tables.{link_back}
use Rattle.st_pair.proofs.links.Links.of_events.Given as goal

abbrev pub invariant-loop-event : goal.invariant-loop-event
invariant-loop-event l = record {
  links : l.links.items ≡ map (link_back l.streams) (take l.event-index l.events);
  sent : l.sent ≡ l.initial.sent;
}
