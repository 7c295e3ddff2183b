-- The places so far are those of the processes so far that have an event left.
use Rattle.std.proofs.Common.{◌≡◌, ◌≢◌, ℕ, ◌<◌, List, [], None, Some}
use Rattle.std.specs.List.{slice_get}
use Rattle.st_core.specs.declared.types.Pid.{Pid}
use Rattle.st_core.specs.declared.types.Event.{Event}
use Rattle.st_core.specs.Run.{pids_of}
use Rattle.node_streams.specs.Order.{next_event}
use Rattle.node_streams.specs.Tables.{IsAt}
use Rattle.node_streams.proofs.order.events_left.Given as goal

abbrev pub invariant-loop-place : goal.invariant-loop-place
invariant-loop-place l = record {
  none : (order : List Pid) → IsAt l.streams order l.walk → l.left.items ≡ []
      → (i : ℕ) (p : Pid) → i < l.place → slice_get (pids_of l.streams) i ≡ Some p
      → next_event l.streams order p ≡ None;
  some : (order : List Pid) → IsAt l.streams order l.walk → l.left.items ≢ []
      → (p : Pid) × (e : Event) × (next_event l.streams order p ≡ Some e);
}
