-- None of the processes so far can go on.
use Rattle.std.proofs.Common.{◌≡◌, ℕ, ◌<◌, List, Some}
use Rattle.std.specs.List.{slice_get}
use Rattle.st_core.specs.declared.types.Pid.{Pid}
use Rattle.st_core.specs.Run.{pids_of}
use Rattle.node_streams.specs.Order.{CanGo}
use Rattle.node_streams.specs.Tables.{IsAt}
use Rattle.node_streams.proofs.walk.Walk.free_process.Given as goal

abbrev pub invariant-loop-place : goal.invariant-loop-place
invariant-loop-place l = (order : List Pid) → IsAt l.streams order l.self
    → (i : ℕ) (p : Pid) → i < l.place
    → slice_get (pids_of l.streams) i ≡ Some p → ¬ (CanGo l.streams order p)
