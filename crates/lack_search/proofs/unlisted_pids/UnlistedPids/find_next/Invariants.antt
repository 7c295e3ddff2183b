-- The search adds no pid to those found.
use Rattle.std.proofs.Common.{◌≡◌}
use Rattle.lack_search.proofs.unlisted_pids.UnlistedPids.find_next.Given as goal

abbrev pub invariant-loop : goal.invariant-loop
invariant-loop l = l.self.pids ≡ l.fn.self.pids
