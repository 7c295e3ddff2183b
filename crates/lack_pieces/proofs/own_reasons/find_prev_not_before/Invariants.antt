-- The serials of the events so far rise.
use Rattle.std.proofs.Common.{◌≡◌, ℕ, ◌<◌, Some, slice_get}
use Rattle.st_core.specs.declared.types.Event.{Event}
use Rattle.lack_pieces.proofs.own_reasons.find_prev_not_before.Given as goal

abbrev pub invariant-loop-i : goal.invariant-loop-i
invariant-loop-i l = (k : ℕ) (e : Event) → k < l.i → slice_get l.events k ≡ Some e
    → e.serial.prev < e.serial.this
