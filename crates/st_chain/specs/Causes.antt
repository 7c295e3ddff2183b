-- The cause of each event.
use Rattle.std.specs.Prelude.{◌≡◌, ℕ, ◌+◌, ◌*◌, ◌==◌, ◌&&◌, zero, suc, not, List, [], ◌∷◌, Option}
use Rattle.std.specs.Prelude.{Some, None, if◌then◌else◌, slice_get, option_map}
use Rattle.st_core.specs.declared.types.Pid.{Pid}
use Rattle.st_core.specs.declared.types.Event.{Event}
use Rattle.st_core.specs.Run.{Stream}
use Rattle.st_core.specs.Streams.{events_of}
use Rattle.st_pair.specs.declared.answer.Source.{Source}
use Rattle.st_pair.specs.declared.answer.Source.TheVariants as source
use Rattle.st_pair.specs.Places.{event_at, is_stamp}
use Rattle.st_pair.specs.Pairing.{source_of}
use Rattle.st_chain.specs.declared.cause.Cause.{Cause}
use Rattle.st_chain.specs.declared.cause.Cause.TheVariants as cause

-- the index of the last receive with this count before index i
abbrev pub received_before : List Event → ℕ → ℕ → Option ℕ
received_before es this zero = None
received_before es this (suc i) = elim (slice_get es i) [
  | None ↦ received_before es this i
  | Some e ↦
      if not (is_stamp e) && e.serial.this == this then Some i else received_before es this i
]

-- the cause of a receive: its send
abbrev pub of_source : Source → Cause
of_source (source.Event q j) = cause.Event q j
of_source source.Hidden = cause.Hidden

-- the cause of a send or print of p: the receive that has its prev as count
abbrev pub of_receive : Pid → Option ℕ → Cause
of_receive p None = cause.Start
of_receive p (Some j) = cause.Event p j

abbrev pub cause_by : List Stream → Pid → ℕ → Event → Cause
cause_by streams p i e = if is_stamp e then of_receive p
    (received_before (events_of streams p) e.serial.prev i) else of_source (source_of streams e)

-- the cause of the event at (p, i); none if there is no event
abbrev pub cause_at : List Stream → Pid → ℕ → Option Cause
cause_at streams p i = option_map (cause_by streams p i) (event_at streams p i)

-- the place of a cause, if it is an event
abbrev pub place_of_cause : Option Cause → Option (Pid × ℕ)
place_of_cause None = None
place_of_cause (Some (cause.Event q j)) = Some (q, j)
place_of_cause (Some cause.Hidden) = None
place_of_cause (Some cause.Start) = None

-- the list is the way back from this place: after each place comes the place of its cause, until
-- the cause is Hidden or Start
abbrev pub IsBackFrom : List Stream → Option (Pid × ℕ) → List (Pid × ℕ) → Type 0
IsBackFrom streams at [] = at ≡ None
IsBackFrom streams at (x ∷ rest) =
    (at ≡ Some x) × IsBackFrom streams (place_of_cause (cause_at streams x.0 x.1)) rest

-- the place of the event at (p, i), if there is one
abbrev pub place_at : List Stream → Pid → ℕ → Option (Pid × ℕ)
place_at streams p i = option_map (λ e. (p, i)) (event_at streams p i)

-- a number that is smaller for a cause than for its event: a cause has a smaller count, or the
-- same count and is a send
abbrev pub weight : Event → ℕ
weight e = 2 * e.serial.this + (if is_stamp e then 1 else 2)

-- a number that falls with each step of the way back from a place
abbrev pub far : List Stream → Option (Pid × ℕ) → ℕ
far streams None = 0
far streams (Some x) = 1 + (elim (event_at streams x.0 x.1) [ None ↦ 0 | Some e ↦ weight e ])

-- the receive that a send or print at index i follows in its own process; none for a receive
abbrev pub back_of : List Event → ℕ → Event → Option ℕ
back_of all i e = if is_stamp e then received_before all e.serial.prev i else None

-- the receive that each of these events follows, if the first of them is at index i
abbrev pub backs_from : List Event → ℕ → List Event → List (Option ℕ)
backs_from all i [] = []
backs_from all i (e ∷ es) = back_of all i e ∷ backs_from all (i + 1) es
