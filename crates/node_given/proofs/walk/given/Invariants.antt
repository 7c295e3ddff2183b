-- Each event so far has its way, and the walk knows these events.
use Rattle.std.proofs.Common.{◌≡◌, ℕ, Some, length, take}
use Rattle.std.specs.List.{count_by, slice_get}
use Rattle.node_machine.specs.declared.types.Seen.{Seen}
use Rattle.node_machine.specs.Readings.{NeedsAtLeast}
use Rattle.node_given.specs.declared.way.Way.{Way}
use Rattle.node_given.specs.Walk.{IsKnown, IsWay, names_put_back}
use Rattle.node_given.proofs.walk.given.Given as goal

abbrev pub invariant-loop-event : goal.invariant-loop-event
invariant-loop-event l = record {
  known : IsKnown (take l.event-index l.events) l.walk.clocks.items l.walk.lift l.walk.last
      l.walk.takes
      l.walk.tokens;
  count : length l.ways.items ≡ l.event-index;
  ways : (i : ℕ) (e : Seen) (w : Way) → slice_get l.events i ≡ Some e
      → slice_get l.ways.items i ≡ Some w → IsWay (take i l.events) e w;
  needs : NeedsAtLeast (take l.event-index l.events) (count_by names_put_back l.ways.items);
}
