-- The labelled items so far and those of the items that are left make up all labelled items.
use Rattle.std.proofs.Common.{◌≡◌, ◌++◌, drop}
use Rattle.std.specs.List.{filter_map}
use Rattle.st_order.specs.Groups.{with_label}
use Rattle.st_order.proofs.labels.with_labels.Given as goal

abbrev pub invariant-loop-item : goal.invariant-loop-item
invariant-loop-item l = l.labelled.items ++ filter_map (with_label l.streams)
    (drop l.item-index l.items) ≡ filter_map (with_label l.streams) l.items
