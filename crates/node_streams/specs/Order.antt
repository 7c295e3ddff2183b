-- An order of all events in which each receive comes after its send.
use Rattle.std.specs.Prelude.{◌≡◌, ℕ, ◌<◌, true, List, [], ◌∷◌, take, Option, Some, None, slice_get}
use Rattle.std.specs.Prelude.{count_by}
use Rattle.st_core.specs.declared.types.Pid.{Pid}
use Rattle.st_core.specs.declared.types.Event.{Event}
use Rattle.st_core.specs.Pid.{pid_eq}
use Rattle.st_core.specs.Run.{Stream}
use Rattle.st_core.specs.Streams.{events_of}
use Rattle.node_streams.specs.Messages.{takes_message, send_of}

-- the number of p's turns in the order
abbrev pub turns : Pid → List Pid → ℕ
turns p order = count_by (λ q. pid_eq q p) order

-- p's next event after the turns
abbrev pub next_event : List Stream → List Pid → Pid → Option Event
next_event streams order p = slice_get (events_of streams p) (turns p order)

-- after the turns p can go on: it has an event left, and if that is a receive, its send came,
-- unless it wasn't reported
pub record CanGo (streams : List Stream) (order : List Pid) (p : Pid) : Type 0 where
  pub event : Event
  pub next : next_event streams order p ≡ Some event
  pub sent : takes_message event ≡ true → (j : ℕ)
      → send_of streams (take (turns p order) (events_of streams p)) event ≡ Some j
      → j < turns event.from order

-- the order, its last turn first, has only turns of processes that can go on
abbrev pub IsTurnOrder : List Stream → List Pid → Type 0
IsTurnOrder streams [] = Unit {0}
IsTurnOrder streams (p ∷ order) = CanGo streams order p × IsTurnOrder streams order

-- all events of the streams have an order
pub record HaveOrder (streams : List Stream) : Type 0 where
  pub order : List Pid
  pub is_order : IsTurnOrder streams order
  pub over : (p : Pid) → next_event streams order p ≡ None
