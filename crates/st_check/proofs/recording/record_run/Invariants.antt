-- The record is the run of the acts so far.
use Rattle.std.proofs.Common.{take}
use Rattle.st_check.specs.Recorded.{IsReplayedTo}
use Rattle.st_check.proofs.recording.record_run.Given as goal

abbrev pub invariant-loop-number : goal.invariant-loop-number
invariant-loop-number g l =
    IsReplayedTo g.row.TOP l.pids (take l.number l.acts) l.keeps_replies
    l.recording.world l.recording.streams l.recording.replies
