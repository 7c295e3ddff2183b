-- The sends and prints passed so far have lower counts than the receipts to come, and the first
-- unfounded receipt so far is known.
use Rattle.std.proofs.Common.{◌≤◌, length}
use Rattle.st_core.specs.declared.types.Pid.{Pid}
use Rattle.lack_pieces.specs.Firsts.{IsEarliest}
use Rattle.lack_pieces.specs.Lowest.{IsLowestIn}
use Rattle.lack_pieces.specs.Pieces.{Piece}
use Rattle.lack_pieces.proofs.Founding.{IsUnfoundedBelow}
use Rattle.lack_pieces.proofs.ReceivedCounts.{IsPassed}
use Rattle.lack_pieces.proofs.unfounded_events.find_unfounded_receipt.Given as goal

abbrev pub invariant-loop-receipt : goal.invariant-loop-receipt
invariant-loop-receipt l = record {
  within : l.next ≤ length l.events;
  passed : IsPassed l.events l.receipts l.next l.receipt-index;
  least : (pid : Pid)
      → (let piece : Piece = record { pid = pid; events = l.events; receipts = l.receipts } in
      IsLowestIn piece l.lowest → IsEarliest (IsUnfoundedBelow piece l.receipt-index) l.least);
}
