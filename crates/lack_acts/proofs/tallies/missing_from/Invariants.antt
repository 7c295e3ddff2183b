-- The fold over the remaining events, from what is missing so far, is that over all.
use Rattle.std.proofs.Common.{◌≡◌, [], drop, take}
use Rattle.lack_needs.specs.Flaws.{left_by}
use Rattle.lack_acts.specs.Missing.{missing_from}
use Rattle.lack_acts.proofs.tallies.missing_from.Given as goal

abbrev pub invariant-loop-event : goal.invariant-loop-event
invariant-loop-event l = record {
  left : l.left ≡ left_by (take l.event-index l.events);
  missing : missing_from l.missing (take l.event-index l.events) (drop l.event-index l.events)
      ≡ missing_from 0 [] l.events;
}
