-- The acts counted so far and those of the remaining events are all acts, up to the greatest
-- number.
use Rattle.std.proofs.Common.{◌≡◌, ◌+◌, ◌-◌, ◌^◌, ◌≤◌, [], drop, take}
use Rattle.lack_needs.specs.Flaws.{left_by}
use Rattle.lack_decide.specs.Bounds.{acts_after, saturated}
use Rattle.lack_decide.proofs.bounds.acts_of_events.Given as goal

abbrev pub invariant-loop-event : goal.invariant-loop-event
invariant-loop-event l = record {
  left : l.left ≡ left_by (take l.event-index l.events);
  small : l.count ≤ 2 ^ 64 - 1;
  counted : saturated (l.count + acts_after (take l.event-index l.events)
      (drop l.event-index l.events)) ≡ saturated (acts_after [] l.events);
}
