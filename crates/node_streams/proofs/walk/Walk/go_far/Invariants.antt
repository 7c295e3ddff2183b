-- The walk has followed some order, and takes no event back. Each turn leaves fewer events.
use Rattle.std.proofs.Common.{◌≤◌}
use Rattle.st_core.specs.declared.types.Pid.{Pid}
use Rattle.node_streams.specs.Tables.{done_in, IsReached}
use Rattle.node_streams.proofs.Turns.{events_left}
use Rattle.node_streams.proofs.walk.Walk.go_far.Given as goal

abbrev pub invariant-loop-event : goal.invariant-loop-event
invariant-loop-event l = record {
  way : IsReached l.streams l.self;
  more : (p : Pid) → done_in l.streams l.fn.self p ≤ done_in l.streams l.self p;
}

abbrev pub decreases-loop-event : goal.decreases-loop-event
decreases-loop-event l = events_left l.streams (done_in l.streams l.self)
