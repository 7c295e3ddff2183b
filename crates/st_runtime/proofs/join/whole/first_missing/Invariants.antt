-- Each entry of the logs that were taken is whole.
use Rattle.std.proofs.Common.{take}
use Rattle.std.specs.Prelude.{All}
use Rattle.st_runtime.specs.Pcb.{Control}
use Rattle.st_runtime.specs.Pieces.{IsWholeEntry}
use Rattle.st_runtime.proofs.join.whole.first_missing.Given as goal

abbrev pub invariant-loop-k : goal.invariant-loop-k
invariant-loop-k g l = All (λ (x : Control). All (IsWholeEntry l.processes) x.log)
    (take l.k l.processes)
