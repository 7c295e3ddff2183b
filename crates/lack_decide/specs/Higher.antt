-- For the parts alone: the last event before an index whose count isn't below a given one.
use Rattle.std.specs.Prelude.{◌≡◌, ℕ, ◌<◌, ◌≤◌, List, slice_get, Option, Some, None}
use Rattle.st_core.specs.declared.types.Event.{Event}

-- event j is the last one before index i whose count isn't below `this`
pub record IsHigher (es : List Event) (i this j : ℕ) : Type 0 where
  pub event : Event
  pub at : slice_get es j ≡ Some event
  pub before : j < i
  pub high : this ≤ event.serial.this
  pub last : (k : ℕ) (f : Event) → j < k → k < i → slice_get es k ≡ Some f → f.serial.this < this

-- the last event before index i whose count isn't below `this`, if there is one
abbrev pub LastHigher : List Event → ℕ → ℕ → Option ℕ → Type 0
LastHigher es this i None = (k : ℕ) (f : Event) → k < i → slice_get es k ≡ Some f
    → f.serial.this < this
LastHigher es this i (Some j) = IsHigher es i this j
