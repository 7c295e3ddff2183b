-- So far these are the streams of the processes that were taken.
use Rattle.std.proofs.Common.{◌≡◌, take}
use Rattle.st_runtime.specs.Joined.{streams_of}
use Rattle.st_runtime.proofs.join.collect.streams_of.Given as goal

abbrev pub invariant-loop-process : goal.invariant-loop-process
invariant-loop-process g l = l.draft ≡ streams_of (take l.process-index l.processes)
