-- Each gap so far is one of the streams.
use Rattle.std.proofs.Common.{All}
use Rattle.lack_acts.specs.Gaps.{IsGapIn}
use Rattle.lack_acts.proofs.gaps.gaps_of.Given as goal

abbrev pub invariant-loop-process : goal.invariant-loop-process
invariant-loop-process l = All (IsGapIn l.fn.streams) l.gaps.items
