-- The pids so far are listed, without events.
use Rattle.std.proofs.Common.{◌≡◌, [], take}
use Rattle.st_check.specs.Answers.{reported_streams}
use Rattle.st_check.proofs.recording.open_all.Given as goal

abbrev pub invariant-loop-pid : goal.invariant-loop-pid
invariant-loop-pid l = l.draft ≡ reported_streams (take l.pid-index l.pids) [] []
