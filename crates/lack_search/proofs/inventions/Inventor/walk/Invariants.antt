-- Each send that was taken got a prev.
use Rattle.lack_search.specs.Inventions.{LeavesPrevs}
use Rattle.lack_search.specs.MergedEvents.{events_left}
use Rattle.lack_search.proofs.inventions.Inventor.walk.Given as goal

abbrev pub invariant-loop-next : goal.invariant-loop-next
invariant-loop-next l = LeavesPrevs l.fn.self l.self

abbrev pub decreases-loop-next : goal.decreases-loop-next
decreases-loop-next l = events_left l.events
