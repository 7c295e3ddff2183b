-- No process so far names a pid of another node.
use Rattle.std.proofs.Common.{◌≡◌, false, take}
use Rattle.std.specs.List.{list_any}
use Rattle.st_core.specs.Run.{pids_of}
use Rattle.st_text.specs.Parts.Remote.{is_process_remote}
use Rattle.st_text.proofs.remote.are_streams_remote.Given as goal

abbrev pub invariant-loop-pid : goal.invariant-loop-pid
invariant-loop-pid l = list_any (is_process_remote l.streams) (take l.pid-index (pids_of l.streams))
    ≡ false
