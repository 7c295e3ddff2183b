-- Each wish so far is for a message that its gap can take.
use Rattle.std.proofs.Common.{All}
use Rattle.lack_acts.specs.Offers.{IsWishFor}
use Rattle.lack_acts.proofs.climbs.wishes_of.Given as goal

abbrev pub invariant-loop-number : goal.invariant-loop-number
invariant-loop-number l = All (IsWishFor l.gaps) l.wishes.items
