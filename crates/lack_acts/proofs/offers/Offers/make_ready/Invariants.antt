-- Each offer made ready so far reaches up to the count.
use Rattle.std.proofs.Common.{◌≤◌, All}
use Rattle.lack_acts.proofs.offers.Offers.make_ready.Given as goal

abbrev pub invariant-loop : goal.invariant-loop
invariant-loop l = All (λ o. l.count ≤ o.next) l.fn.self.ready.items
    → All (λ o. l.count ≤ o.next) l.self.ready.items
