-- The search leaves the walk where it is.
use Rattle.node_streams.proofs.Turns.{same_walk}
use Rattle.node_streams.proofs.walk.Walk.candidate.Goals as goal

pub returns-in-Some-free_event-clause-free : goal.returns-in-Some-free_event-clause-free
returns-in-Some-free_event-clause-free c = λ order at.
    c.in-Some-free_event.ensures.free order
    (same_walk c.args.streams.now order c.args.self.now _ c.loop-place.invariant at)
