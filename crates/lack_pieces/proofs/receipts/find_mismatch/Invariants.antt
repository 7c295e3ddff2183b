-- The sends and prints passed so far have lower counts than the receipts to come, and the first
-- mismatch so far is known.
use Rattle.std.proofs.Common.{◌≤◌, length}
use Rattle.lack_pieces.specs.Firsts.{IsEarliest}
use Rattle.lack_pieces.specs.Pieces.{Piece}
use Rattle.lack_pieces.proofs.ReceivedCounts.{IsMismatchBelow, IsPassed}
use Rattle.lack_pieces.proofs.receipts.find_mismatch.Given as goal

abbrev pub invariant-loop-receipt : goal.invariant-loop-receipt
invariant-loop-receipt l =
    let piece : Piece = record { pid = l.pid; events = l.events; receipts = l.receipts } in
    record {
      within : l.next ≤ length l.events;
      passed : IsPassed l.events l.receipts l.next l.receipt-index;
      least : IsEarliest (IsMismatchBelow piece l.receipt-index) l.least;
    }
