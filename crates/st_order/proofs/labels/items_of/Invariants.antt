-- The list has the items at the front, up to the loop's index.
use Rattle.std.proofs.Common.{◌≡◌, map, take}
use Rattle.st_order.proofs.labels.items_of.Given as goal

abbrev pub invariant-loop-one : goal.invariant-loop-one
invariant-loop-one l = l.items.items ≡ map (λ x. x.item) (take l.one-index l.labelled)
