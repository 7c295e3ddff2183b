-- The search only takes out ends.
use Rattle.std.proofs.Common.{◌≡◌}
use Rattle.lack_acts.proofs.homes.HomeSearch.gap_at_end.Given as goal

abbrev pub invariant-loop : goal.invariant-loop
invariant-loop l = l.self.untold.items ≡ l.fn.self.untold.items
