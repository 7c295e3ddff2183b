-- The walk has followed some order, and each turn leaves fewer events.
use Rattle.node_streams.specs.Tables.{done_in, IsReached}
use Rattle.node_streams.proofs.Turns.{events_left}
use Rattle.node_streams.proofs.order.cycle.Given as goal

abbrev pub invariant-loop-place : goal.invariant-loop-place
invariant-loop-place l = IsReached l.streams l.walk

abbrev pub decreases-loop-place : goal.decreases-loop-place
decreases-loop-place l = events_left l.streams (done_in l.streams l.walk)
