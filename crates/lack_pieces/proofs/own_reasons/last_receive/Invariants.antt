-- The last receive so far with at least the count is known.
use Rattle.lack_pieces.specs.Firsts.{IsLastReceive}
use Rattle.lack_pieces.proofs.own_reasons.last_receive.Given as goal

abbrev pub invariant-loop-i : goal.invariant-loop-i
invariant-loop-i l = IsLastReceive l.events l.i l.count l.last
