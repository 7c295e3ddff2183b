-- No event that was passed has the label.
use Rattle.std.proofs.Common.{◌≡◌}
use Rattle.st_chain.specs.Labels.{indexes_from}
use Rattle.st_chain.proofs.chain.next_index.Given as goal

abbrev pub invariant-loop-index : goal.invariant-loop-index
invariant-loop-index l =
    indexes_from l.label l.start l.events ≡ indexes_from l.label l.index l.events
