-- Which send each reported receive follows, and the four reasons why streams are refused before any
-- act is sought.
use Rattle.std.specs.Prelude.{◌≡◌, ℕ, ◌==◌, ◌&&◌, ◌||◌, zero, suc, nat_lt, Bool, true, false, not}
use Rattle.std.specs.Prelude.{List, [], ◌∷◌}
use Rattle.std.specs.Prelude.{Option, Some, None, if◌then◌else◌, slice_get, option_and_then}
use Rattle.st_core.specs.declared.types.Pid.{Pid}
use Rattle.st_core.specs.declared.types.Kind.TheVariants as kind
use Rattle.st_core.specs.declared.types.Event.{Event}
use Rattle.st_core.specs.Pid.{pid_eq}
use Rattle.st_core.specs.Event.{to_eq}
use Rattle.st_core.specs.Run.{Stream}
use Rattle.st_core.specs.Streams.{events_of}
use Rattle.st_pair.specs.declared.answer.PairFault.{PairFault}
use Rattle.st_pair.specs.declared.answer.PairFault.TheVariants as fault
use Rattle.st_pair.specs.declared.answer.Source.{Source}
use Rattle.st_pair.specs.declared.answer.Source.TheVariants as source
use Rattle.st_pair.specs.Places.{event_at, is_stamp, first_from, first}

-- the last send or print before index i, with its index
abbrev pub stamp_before : List Event → ℕ → Option (ℕ × Event)
stamp_before es zero = None
stamp_before es (suc i) = elim (slice_get es i) [
  | None ↦ stamp_before es i
  | Some e ↦ if is_stamp e then Some (i, e) else stamp_before es i
]

-- the first send or print of q with this count, with its index
abbrev pub stamp_of : List Stream → Pid → ℕ → Option (ℕ × Event)
stamp_of streams q this =
    first_from (λ p j f. if is_stamp f && f.serial.this == this then Some (j, f) else None) q 0
    (events_of streams q)

-- the place of the first receive from q with this count
abbrev pub receive_of : List Stream → Pid → ℕ → Option (Pid × ℕ)
receive_of streams q this = first (λ p i e.
    if is_stamp e then None else if pid_eq e.from q
    && e.serial.this == this then Some (p, i) else None) streams

-- the event is a send
abbrev pub is_send : Event → Bool
is_send e = elim e.kind [ kind.Send ↦ true | kind.Receive ↦ false | kind.Print ↦ false ]

-- f is a send with the label, the prev, the receiver and the value of the receive e
abbrev pub agrees : Event → Event → Bool
agrees f e = is_send f &&
    (f.label.0 == e.label.0 &&
    (f.serial.prev == e.serial.prev && (to_eq f.to e.to && f.value == e.value)))

-- A rule tests one event at its place, and gives a fault if it refuses the streams there. The
-- rules are tried in the order of this file, each over all places.

-- an event's prev isn't less than its this
abbrev pub prev_not_before : Pid → ℕ → Event → Option PairFault
prev_not_before p i e =
    if nat_lt e.serial.prev e.serial.this then None else Some (fault.PrevNotBefore p i)

-- the count of a send or print isn't above that of the last one before it in its process. At the
-- least such place the counts before it rise, so the last of them is the greatest
abbrev pub not_rising : List Stream → Pid → ℕ → Event → Option PairFault
not_rising streams p i e = option_and_then (λ f.
    if not (is_stamp e) || nat_lt f.1.serial.this e.serial.this then None
    else Some (fault.NotRising p i f.0))
    (stamp_before (events_of streams p) i)

-- a receive isn't the first one with its sender and count; the fault names both
abbrev pub repeated : List Stream → Pid → ℕ → Event → Option PairFault
repeated streams p i e = option_and_then (λ at.
    if is_stamp e || (pid_eq at.0 p && at.1 == i) then None
    else Some (fault.Repeated p i at.0 at.1))
    (receive_of streams e.from e.serial.this)

-- the sender of a receive has a send or print with its count that isn't its send
abbrev pub mismatch : List Stream → Pid → ℕ → Event → Option PairFault
mismatch streams p i e = option_and_then (λ f.
    if is_stamp e || agrees f.1 e then None else Some (fault.Mismatch p i e.from f.0))
    (stamp_of streams e.from e.serial.this)

-- the fault of the first rule that gives one anywhere, at the least place at which it does
abbrev pub first_rule : List Stream → List (Pid → ℕ → Event → Option PairFault) → Option PairFault
first_rule streams [] = None
first_rule streams (rule ∷ rules) =
    elim (first rule streams) [ None ↦ first_rule streams rules | Some f ↦ Some f ]

-- the reason for which pairing refuses the streams, if it does
abbrev pub refusal : List Stream → Option PairFault
refusal streams = first_rule streams
    (prev_not_before ∷ not_rising streams ∷ repeated streams ∷ mismatch streams ∷ [])

-- where the message of a receive came from: the sender's event with its count, or a hidden send if
-- no event has it
abbrev pub source_of : List Stream → Event → Source
source_of streams e = elim (stamp_of streams e.from e.serial.this) [
  | None ↦ source.Hidden
  | Some f ↦ source.Event e.from f.0
]

-- the source of the receive at (p, i); none if there is no receive
abbrev pub source_at : List Stream → Pid → ℕ → Option Source
source_at streams p i =
    option_and_then (λ e. if is_stamp e then None else Some (source_of streams e))
    (event_at streams p i)

-- the place of the receive that is paired with the send at (q, j); none if there is no send, or no
-- receive is paired with it
abbrev pub receiver_at : List Stream → Pid → ℕ → Option (Pid × ℕ)
receiver_at streams q j =
    option_and_then (λ f. if is_send f then receive_of streams q f.serial.this else None)
    (event_at streams q j)

-- the fault says why the streams aren't paired: memory ran out, or pairing refuses them for it
abbrev pub IsPairFault : List Stream → PairFault → Type 0
IsPairFault streams fault.Memory = Unit {0}
IsPairFault streams f = refusal streams ≡ Some f
