-- The first repeated receipt so far is known.
use Rattle.lack_pieces.specs.Firsts.{IsEarliest}
use Rattle.lack_pieces.proofs.ReceivedCounts.{IsRepeatBelow}
use Rattle.lack_pieces.proofs.receipts.find_repeated.Given as goal

abbrev pub invariant-loop-i : goal.invariant-loop-i
invariant-loop-i l = IsEarliest (IsRepeatBelow l.receipts l.i) l.least
