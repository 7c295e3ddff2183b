-- The bytes before the rest were taken.
use Rattle.std.proofs.Common.{length}
use Rattle.st_text.proofs.CutterSteps.{IsUnderWay}
use Rattle.st_text.proofs.cutter.Cutter.pass_piece.Given as goal

abbrev pub invariant-loop-rest : goal.invariant-loop-rest
invariant-loop-rest l = IsUnderWay l.limits l.piece l.rest l.initial.self l.self

abbrev pub decreases-loop-rest : goal.decreases-loop-rest
decreases-loop-rest l = length l.rest
