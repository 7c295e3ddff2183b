-- The sends and prints passed so far have lower counts.
use Rattle.std.proofs.Common.{◌≡◌, ℕ, ◌<◌, ◌≤◌, true, Some, slice_get}
use Rattle.st_core.specs.declared.types.Event.{Event}
use Rattle.st_pair.specs.Places.{is_stamp}
use Rattle.lack_pieces.proofs.receipts.next_stamp.Given as goal

abbrev pub invariant-loop-i : goal.invariant-loop-i
invariant-loop-i l = (k : ℕ) (f : Event) → l.from ≤ k → k < l.i → slice_get l.events k ≡ Some f
    → is_stamp f ≡ true → f.serial.this < l.count
