-- So far the table has the first event that bears each label.
use Rattle.std.proofs.Common.{take}
use Rattle.node_origins.specs.Tables.{AreFirstLabels}
use Rattle.node_origins.proofs.first_labels.FirstLabels.of.Given as goal

abbrev pub invariant-loop-index : goal.invariant-loop-index
invariant-loop-index l = AreFirstLabels (take l.index l.events) l.labels
