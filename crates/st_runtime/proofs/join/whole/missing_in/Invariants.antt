-- Each entry of the log that was taken is whole.
use Rattle.std.proofs.Common.{take}
use Rattle.std.specs.Prelude.{All}
use Rattle.st_runtime.specs.Pieces.{IsWholeEntry}
use Rattle.st_runtime.proofs.join.whole.missing_in.Given as goal

abbrev pub invariant-loop-place : goal.invariant-loop-place
invariant-loop-place g l = All (IsWholeEntry l.processes) (take l.place l.log.entries)
