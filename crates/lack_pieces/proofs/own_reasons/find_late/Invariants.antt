-- No send or print so far is late, and no receive has a count above the highest.
use Rattle.std.proofs.Common.{◌≡◌, ℕ, ◌<◌, ◌≤◌, false, Some, slice_get}
use Rattle.st_core.specs.declared.types.Event.{Event}
use Rattle.st_pair.specs.Places.{is_stamp}
use Rattle.lack_pieces.proofs.Walks.{RiseBelow}
use Rattle.lack_pieces.proofs.own_reasons.find_late.Given as goal

abbrev pub invariant-loop-i : goal.invariant-loop-i
invariant-loop-i l = record {
  rise : RiseBelow false l.events l.i;
  high : (k : ℕ) (f : Event) → k < l.i → slice_get l.events k ≡ Some f → is_stamp f ≡ false
      → f.serial.this ≤ l.highest;
}
