-- The sends and prints so far rise, and the last one is known.
use Rattle.std.proofs.Common.{true}
use Rattle.lack_pieces.proofs.Walks.{IsLastStamp, RiseBelow}
use Rattle.lack_pieces.proofs.own_reasons.find_not_rising.Given as goal

abbrev pub invariant-loop-i : goal.invariant-loop-i
invariant-loop-i l = record {
  rise : RiseBelow true l.events l.i;
  last : IsLastStamp l.events l.i l.last;
}
