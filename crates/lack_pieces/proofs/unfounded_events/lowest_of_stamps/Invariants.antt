-- No send or print so far has another prev than 0.
use Rattle.std.proofs.Common.{◌≡◌, ℕ, ◌<◌, true, Some, slice_get}
use Rattle.st_core.specs.declared.types.Event.{Event}
use Rattle.st_pair.specs.Places.{is_stamp}
use Rattle.lack_pieces.proofs.unfounded_events.lowest_of_stamps.Given as goal

abbrev pub invariant-loop-event : goal.invariant-loop-event
invariant-loop-event l = (k : ℕ) (f : Event) → k < l.event-index → slice_get l.events k ≡ Some f
    → is_stamp f ≡ true → f.serial.prev ≡ 0
