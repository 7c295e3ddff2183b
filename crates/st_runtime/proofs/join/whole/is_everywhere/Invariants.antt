-- Each process that was taken has the entry, if it is on the actor's node.
use Rattle.std.proofs.Common.{take}
use Rattle.std.specs.Prelude.{All}
use Rattle.st_runtime.specs.Pieces.{HasIfTouched}
use Rattle.st_runtime.proofs.join.whole.is_everywhere.Given as goal

abbrev pub invariant-loop-process : goal.invariant-loop-process
invariant-loop-process g l = All (HasIfTouched l.entry) (take l.process-index l.processes)
