-- No clock so far goes on.
use Rattle.std.proofs.Common.{◌≡◌, false, max, take}
use Rattle.std.specs.List.{list_any}
use Rattle.node_machine.specs.Readings.{is_next}
use Rattle.node_given.proofs.clocks.some_goes_on.Given as goal

abbrev pub invariant-loop-clock : goal.invariant-loop-clock
invariant-loop-clock l =
    list_any (λ k. is_next (max k l.lift) l.last l.stamp) (take l.clock-index l.clocks) ≡ false
