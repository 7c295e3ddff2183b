-- The reported events taken so far are told.
use Rattle.lack_search.proofs.Telling.{IsToldSoFar}
use Rattle.lack_search.specs.MergedEvents.{events_left}
use Rattle.lack_search.proofs.assembly.Assembly.add_process.Given as goal

abbrev pub invariant-loop-next : goal.invariant-loop-next
invariant-loop-next l = IsToldSoFar l.pid l.fn.events.reported.now l.events.reported.now l.fn.self
    l.self

abbrev pub decreases-loop-next : goal.decreases-loop-next
decreases-loop-next l = events_left l.events
