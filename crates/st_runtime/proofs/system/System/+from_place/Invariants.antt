-- Each call takes the next lock, so they end with the last.
use Rattle.std.proofs.Common.{length, ◌-◌}
use Rattle.st_runtime.proofs.system.System.+from_place.Given as goal

abbrev pub decreases-from_place : goal.decreases-from_place
decreases-from_place g l = length l.self.now - l.place
