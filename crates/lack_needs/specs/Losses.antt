-- Reported events that show that a receive was lost. Each event tells of a stamp: a send or print
-- of itself, a receive of the send of its message.
use Rattle.std.specs.Prelude.{ℕ, zero, suc, ◌==◌, ◌&&◌, ◌||◌, not, nat_lt, Bool, true, false}
use Rattle.std.specs.Prelude.{List, [], ◌∷◌, length, slice_get, Option, Some, None}
use Rattle.std.specs.Prelude.{if◌then◌else◌}
use Rattle.st_core.specs.declared.types.Pid.{Pid}
use Rattle.st_core.specs.declared.types.Event.{Event}
use Rattle.st_core.specs.Laws.{prev_after}
use Rattle.st_core.specs.Pid.{pid_eq}
use Rattle.st_core.specs.Run.{Stream}
use Rattle.st_core.specs.Streams.{events_of}
use Rattle.st_pair.specs.Places.{event_at, is_stamp}

-- the event before index i, if there is one
abbrev pub event_before : List Event → ℕ → Option Event
event_before es zero = None
event_before es (suc i) = slice_get es i

-- a stamp with count c is the next event, or comes after the event before, which is a stamp with a
-- lower count or isn't there
abbrev pub is_behind : Option Event → Option Event → ℕ → Bool
is_behind before next c =
    elim next [ None ↦ false | Some n ↦ is_stamp n && n.serial.this == c ]
    || elim before [ None ↦ true | Some b ↦ is_stamp b && nat_lt b.serial.this c ]

-- a stamp with count c doesn't come after the next event, whose count isn't lower
abbrev pub is_up_to : Option Event → ℕ → Bool
is_up_to next c = elim next [ None ↦ true | Some n ↦ not (nat_lt n.serial.this c) ]

-- the event before leaves another prev than v
abbrev pub leaves_other : Option Event → ℕ → Bool
leaves_other before v = elim before [ None ↦ false | Some b ↦ not (prev_after (b ∷ []) == v) ]

-- the event before has count v as a receive, or a count above d as a stamp: so it may leave v
-- after the stamp with count d
abbrev pub may_leave : Option Event → ℕ → ℕ → Bool
may_leave before v d = elim before [
  | None ↦ false
  | Some b ↦ if is_stamp b then nat_lt d b.serial.this else b.serial.this == v
]

-- event f is one of p before index i with a count above v, and event i - 1 leaves another prev
-- than v
abbrev pub rules_out_told : Option Event → Pid → ℕ → ℕ → Pid × ℕ → Event → Bool
rules_out_told before p i v at f =
    pid_eq at.0 p && nat_lt at.1 i && nat_lt v f.serial.this && leaves_other before v

-- event f tells of a stamp of p with another prev than v and a count between v and c, after which
-- event i - 1 can't leave v
abbrev pub rules_out_stamp : Option Event → Pid → ℕ → ℕ → Event → Bool
rules_out_stamp before p v c f =
    pid_eq f.from p && not (f.serial.prev == v) && nat_lt v f.serial.this
    && nat_lt f.serial.this c && not (may_leave before v f.serial.this)

-- Event e tells of a stamp of p with prev v, which is event i of p or comes between its events i -
-- 1 and i; and event f rules out that prev v was left before, or that a trace began with it.
abbrev pub are_of_loss : List Event → Pid → ℕ → ℕ → Event → Pid × ℕ → Event → Bool
are_of_loss es p i v e at f =
    let before = event_before es i in
    let next = slice_get es i in
    let c = e.serial.this in
    pid_eq e.from p && e.serial.prev == v && is_behind before next c && is_up_to next c
    && (rules_out_told before p i v at f || rules_out_stamp before p v c f)

-- The events at two places show that p lost a receive with count v between its events i - 1 and i.
abbrev pub shows_loss : List Stream → Pid → ℕ → ℕ → Pid × ℕ → Pid × ℕ → Bool
shows_loss streams p i v one other =
    not (nat_lt (length (events_of streams p)) i)
    && elim (event_at streams one.0 one.1) [
      | None ↦ false
      | Some e ↦ elim (event_at streams other.0 other.1) [
        | None ↦ false
        | Some f ↦ are_of_loss (events_of streams p) p i v e other f
      ]
    ]
