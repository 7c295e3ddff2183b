-- The offer taken out of the others is no higher than the count.
use Rattle.std.proofs.Common.{◌≤◌, IfSome}
use Rattle.lack_acts.proofs.offers.Offers.take.Given as goal

abbrev pub invariant-loop : goal.invariant-loop
invariant-loop l = IfSome l.below (λ o. o.next ≤ l.count)
