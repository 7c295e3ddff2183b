-- `left` is what the events taken so far leave.
use Rattle.std.proofs.Common.{◌≡◌, take}
use Rattle.lack_needs.specs.Flaws.{left_by}
use Rattle.lack_acts.proofs.homes.left_by.Given as goal

abbrev pub invariant-loop-event : goal.invariant-loop-event
invariant-loop-event l = l.left ≡ left_by (take l.event-index l.events)
