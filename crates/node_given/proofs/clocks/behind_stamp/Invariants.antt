-- The clocks found so far are those that went on and aren't the put-back's.
use Rattle.std.proofs.Common.{◌≡◌, max, map, take}
use Rattle.std.specs.List.{filter}
use Rattle.node_machine.specs.Counts.{next_clock}
use Rattle.node_machine.specs.Readings.{clock_put_back}
use Rattle.node_given.specs.Clocks.{leads_elsewhere}
use Rattle.node_given.proofs.clocks.behind_stamp.Given as goal

abbrev pub invariant-loop-clock : goal.invariant-loop-clock
invariant-loop-clock l = record {
  items : l.found.items ≡ map (λ k. next_clock (max k l.lift))
      (filter (leads_elsewhere l.lift l.last l.stamp) (take l.clock-index l.clocks));
  put_back : l.put_back ≡ clock_put_back l.stamp;
}
