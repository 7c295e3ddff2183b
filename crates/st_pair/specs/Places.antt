-- Places of events: a process and an index, ordered by pid, then index, which is the order of the
-- streams.
use Rattle.std.specs.Prelude.{ℕ, ◌+◌, Bool, true, false, List, [], ◌∷◌, Option, Some, None}
use Rattle.std.specs.Prelude.{slice_get}
use Rattle.st_core.specs.declared.types.Pid.{Pid}
use Rattle.st_core.specs.declared.types.Kind.TheVariants as kind
use Rattle.st_core.specs.declared.types.Event.{Event}
use Rattle.st_core.specs.Run.{Stream}
use Rattle.st_core.specs.Streams.{events_of}

-- the event at place (p, i), if there is one
abbrev pub event_at : List Stream → Pid → ℕ → Option Event
event_at streams p i = slice_get (events_of streams p) i

-- the event is a send or a print, whose serial its process stamped
abbrev pub is_stamp : Event → Bool
is_stamp e = elim e.kind [ kind.Send ↦ true | kind.Receive ↦ false | kind.Print ↦ true ]

-- the first option if it has a value, else the second
abbrev pub or_else : {X : Type 0} → Option X → Option X → Option X
or_else o rest = elim o [ None ↦ rest | Some x ↦ Some x ]

-- what the rule gives at the first of these events of p that it gives something at; the events are
-- those from index i on
abbrev pub first_from : {X : Type 0} → (Pid → ℕ → Event → Option X) → Pid → ℕ → List Event
    → Option X
first_from rule p i [] = None
first_from rule p i (e ∷ es) =
    elim (rule p i e) [ None ↦ first_from rule p (i + 1) es | Some x ↦ Some x ]

-- what the rule gives at the least place at which it gives something
abbrev pub first : {X : Type 0} → (Pid → ℕ → Event → Option X) → List Stream → Option X
first rule [] = None
first rule (s ∷ rest) =
    elim (first_from rule s.pid 0 s.events) [ None ↦ first rule rest | Some x ↦ Some x ]
