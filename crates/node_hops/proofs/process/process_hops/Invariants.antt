-- The hops so far and those that are left are all, and `start` is that of the event before.
use Rattle.std.proofs.Common.{◌≡◌, ◌++◌, ◌-◌, ◌<◌, Some, drop, length, slice_get, take}
use Rattle.st_core.specs.declared.types.Event.{Event}
use Rattle.node_streams.specs.Messages.{each_from}
use Rattle.node_hops.specs.Events.{row_first}
use Rattle.node_hops.specs.Hops.{node_hop_of, node_hops_of}
use Rattle.node_hops.proofs.process.process_hops.Given as goal

abbrev pub invariant-loop-index : goal.invariant-loop-index
invariant-loop-index l = record {
  all : l.found.items ++ each_from (λ before e. node_hop_of l.sends l.pid (length before) e)
      (take l.index l.events) (drop l.index l.events) ≡ node_hops_of l.sends l.pid;
  last : (d : Event) → 0 < l.index → slice_get l.events (l.index - 1) ≡ Some d
      → l.start ≡ row_first d.serial.prev l.events (l.index - 1);
}
