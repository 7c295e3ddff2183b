-- No receipt so far has another prev than 0.
use Rattle.std.proofs.Common.{◌≡◌, ℕ, ◌<◌, Some, slice_get}
use Rattle.lack_pieces.specs.declared.placed_reason.Receipt.{Receipt}
use Rattle.lack_pieces.proofs.unfounded_events.lowest_of_receipts.Given as goal

abbrev pub invariant-loop-receipt : goal.invariant-loop-receipt
invariant-loop-receipt l = (k : ℕ) (r : Receipt) → k < l.receipt-index
    → slice_get l.receipts k ≡ Some r → r.event.serial.prev ≡ 0
