-- Words for the laws of pairing: which of two places comes first, and the least place of a rule.
use Rattle.std.specs.Prelude.{◌≡◌, ℕ, ◌<◌, ◌⊎◌, List, Option, Some, None}
use Rattle.st_core.specs.declared.types.Pid.{Pid}
use Rattle.st_core.specs.declared.types.Event.{Event}
use Rattle.st_core.specs.Pid.{IsBelow}
use Rattle.st_core.specs.Run.{Stream}
use Rattle.st_pair.specs.Places.{event_at}

-- (q, j) comes before (p, i): by pid, then index
abbrev pub IsEarlier : Pid → ℕ → Pid → ℕ → Type 0
IsEarlier q j p i = IsBelow q p ⊎ ((q ≡ p) × (j < i))

-- the rule gives x at a place, and nothing at any earlier place
pub record IsLeast {X : Type 0} (rule : Pid → ℕ → Event → Option X) (streams : List Stream)
    (x : X) : Type 0 where
  pub pid : Pid
  pub index : ℕ
  pub event : Event
  pub at : event_at streams pid index ≡ Some event
  pub gives : rule pid index event ≡ Some x
  pub least : (q : Pid) (j : ℕ) (f : Event) → event_at streams q j ≡ Some f
      → IsEarlier q j pid index
      → rule q j f ≡ None
