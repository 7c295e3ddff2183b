-- The starts so far and those that are left are all, and `start` is that of the event before.
use Rattle.std.proofs.Common.{◌≡◌, ◌++◌, ◌-◌, ◌<◌, Some, drop, slice_get}
use Rattle.st_core.specs.declared.types.Event.{Event}
use Rattle.node_hops.specs.Events.{row_first}
use Rattle.node_hops.specs.Kept.{row_firsts, row_firsts_from}
use Rattle.node_hops.proofs.rows.row_firsts.Given as goal

abbrev pub invariant-loop-index : goal.invariant-loop-index
invariant-loop-index l = record {
  whole : l.found.items ++ row_firsts_from l.events l.index (drop l.index l.events)
      ≡ row_firsts l.events;
  last : (d : Event) → 0 < l.index → slice_get l.events (l.index - 1) ≡ Some d
      → l.start ≡ row_first d.serial.prev l.events (l.index - 1);
}
