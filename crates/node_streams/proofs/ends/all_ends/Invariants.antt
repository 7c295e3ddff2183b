-- The lists so far are those of the processes so far.
use Rattle.std.proofs.Common.{◌≡◌, ℕ, List, Some, length}
use Rattle.std.specs.List.{slice_get}
use Rattle.st_core.specs.declared.types.Pid.{Pid}
use Rattle.st_core.specs.Run.{pids_of}
use Rattle.st_core.specs.Streams.{events_of}
use Rattle.node_streams.specs.declared.ends.End.{End}
use Rattle.node_streams.specs.Tables.{AreByContent, ends_from}
use Rattle.node_streams.proofs.ends.all_ends.Given as goal

abbrev pub invariant-loop-pid : goal.invariant-loop-pid
invariant-loop-pid l = record {
  each : length l.lists.items ≡ l.pid-index;
  sorted : (i : ℕ) (p : Pid) (v : List End) → slice_get (pids_of l.streams) i ≡ Some p
      → slice_get l.lists.items i ≡ Some v
      → AreByContent (ends_from l.kind 0 (events_of l.streams p)) v;
}
