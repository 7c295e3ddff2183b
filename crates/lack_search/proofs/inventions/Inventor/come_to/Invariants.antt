-- Each send that was taken got a prev.
use Rattle.std.proofs.Common.{length}
use Rattle.lack_search.specs.Inventions.{LeavesPrevs}
use Rattle.lack_search.proofs.inventions.Inventor.come_to.Given as goal

abbrev pub invariant-loop-invention : goal.invariant-loop-invention
invariant-loop-invention l = LeavesPrevs l.fn.self l.self

abbrev pub decreases-loop-invention : goal.decreases-loop-invention
decreases-loop-invention l = length l.self.inventions.now
