-- A clock has the counts of the events so far.
use Rattle.std.proofs.Common.{◌≡◌, ℕ, ◌<◌, ◌≤◌, Some, slice_get}
use Rattle.st_core.specs.declared.types.Event.{Event}
use Rattle.lack_pieces.proofs.own_reasons.find_too_high.Given as goal

abbrev pub invariant-loop-i : goal.invariant-loop-i
invariant-loop-i g l = (k : ℕ) (e : Event) → k < l.i → slice_get l.events k ≡ Some e
    → e.serial.this ≤ g.row.TOP
