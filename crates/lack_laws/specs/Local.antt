-- Streams in which nothing is needed, as each process's events and the pairing tell.
use Rattle.std.specs.Prelude.{◌≡◌, ℕ, ◌≤◌, false, List, Some, None}
use Rattle.st_core.specs.declared.types.Pid.{Pid}
use Rattle.st_core.specs.declared.types.Event.{Event}
use Rattle.st_core.specs.Run.{Stream}
use Rattle.st_pair.specs.Pairing.{refusal}
use Rattle.st_pair.specs.Places.{event_at}
use Rattle.st_order.specs.Items.{is_hidden}
use Rattle.lack_laws.specs.Needs.{HoldsOfNone, is_late, is_need}

-- in needless streams pairing finds no fault, each receive's send is there, no stamp is late or a
-- need, and each count is at most TOP
pub record IsNeedless (top : ℕ) (streams : List Stream) : Type 0 where
  pub accepted : refusal streams ≡ None
  pub reported : (p : Pid) (i : ℕ) (e : Event) → event_at streams p i ≡ Some e
      → is_hidden streams e ≡ false
  pub timely : HoldsOfNone is_late streams
  pub caused : HoldsOfNone is_need streams
  pub within : (p : Pid) (i : ℕ) (e : Event) → event_at streams p i ≡ Some e → e.serial.this ≤ top
