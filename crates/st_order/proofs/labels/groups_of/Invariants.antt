-- The groups so far and those of the rest make up all groups, and each group takes at least one
-- item.
use Rattle.std.proofs.Common.{◌≡◌, ◌++◌, length}
use Rattle.st_order.specs.Groups.{groups_of}
use Rattle.st_order.proofs.labels.groups_of.Given as goal

abbrev pub invariant-loop-first : goal.invariant-loop-first
invariant-loop-first l = l.groups ++ groups_of l.rest ≡ groups_of l.labelled

abbrev pub decreases-loop-first : goal.decreases-loop-first
decreases-loop-first l = length l.rest
