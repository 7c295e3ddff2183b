-- The flaws that an event may have, given the events of its process before it.
use Rattle.std.specs.Prelude.{◌≡◌, ℕ, ◌<◌, ◌≤◌, Bool, false, List}
use Rattle.st_core.specs.declared.types.Event.{Event}
use Rattle.st_core.specs.Laws.{greatest_count, prev_after}
use Rattle.lack_laws.specs.Needs.{is_late, is_need}
use Rattle.lack_laws.specs.Reasons.{is_too_high}
use Rattle.lack_needs.specs.declared.flaws.Flaw.{Flaw}
use Rattle.lack_needs.specs.declared.flaws.Flaw.TheVariants as flaw
use Rattle.lack_needs.specs.declared.flaws.Left.{Left}

-- the greatest count and the prev that the events leave to the next one
abbrev pub left_by : List Event → Left
left_by es = record { greatest = greatest_count es; prev = prev_after es }

-- the flaw as a test of an event, given the events before it
abbrev pub test_of : Flaw → List Event → Event → Bool
test_of flaw.Late es e = is_late es e
test_of flaw.Need es e = is_need es e
test_of (flaw.TooHigh top) es e = is_too_high top es e

-- the event e goes on from those before it: its serial rises, its count is at most TOP, and it is
-- neither late nor a need
pub record GoesOnWithin (top : ℕ) (es : List Event) (e : Event) : Type 0 where
  pub rises : e.serial.prev < e.serial.this
  pub within : e.serial.this ≤ top
  pub timely : is_late es e ≡ false
  pub caused : is_need es e ≡ false
