-- The tree of an event's followers: each event is below the one that its hop leads to.
use Rattle.std.specs.Prelude.{ℕ, ◌+◌, ◌==◌, ◌||◌, zero, suc, Bool, List, [], ◌∷◌, ◌++◌, drop, take}
use Rattle.std.specs.Prelude.{Option, None, Some, if◌then◌else◌, option_map, option_to_list}
use Rattle.std.specs.List.{flat_map, prefix_len}
use Rattle.st_core.specs.declared.types.Pid.{Pid}
use Rattle.st_core.specs.declared.types.Label.{Label}
use Rattle.st_core.specs.declared.types.Kind.TheVariants as kind
use Rattle.st_core.specs.declared.types.Event.{Event}
use Rattle.st_core.specs.Run.{Stream}
use Rattle.st_core.specs.Streams.{events_of}
use Rattle.st_pair.specs.Places.{event_at}
use Rattle.node_streams.specs.Messages.{content_of, other_end_of, owner}
use Rattle.node_hops.specs.Events.{is_in_row}
use Rattle.node_hops.specs.declared.node.Node.{Node}
use Rattle.node_hops.specs.Way.{node}

-- the row of sends and prints with the prev at the front of the events
abbrev pub row_ahead : ℕ → List Event → List Event
row_ahead prev es = take (prefix_len (λ e. is_in_row prev e) es) es

-- the places of p's events from index i on, of all or of those with the label
abbrev pub places_of : Bool → Pid → Label → ℕ → List Event → List (Pid × ℕ)
places_of all p label i [] = []
places_of all p label i (e ∷ es) =
    (if all || e.label.0 == label.0 then (p, i) ∷ [] else []) ++ places_of all p label (i + 1) es

-- the place of the receive of the message that the event e, event i of p, sends
abbrev pub receive_place : List Stream → Pid → ℕ → Event → Option (Pid × ℕ)
receive_place streams p i e = option_map (λ j. (owner kind.Receive (content_of e), j))
    (other_end_of streams (take i (events_of streams p)) e)

-- the places directly below the event e, event i of p: the receive of a send; the sends and prints
-- of the row after a receive, those with another label only if `across`; nothing below a print
abbrev pub children_of : List Stream → Bool → Pid → ℕ → Event → List (Pid × ℕ)
children_of streams across p i e = elim e.kind [
  | kind.Send ↦ option_to_list (receive_place streams p i e)
  | kind.Receive ↦ places_of across p e.label (i + 1)
      (row_ahead e.serial.this (drop (i + 1) (events_of streams p)))
  | kind.Print ↦ []
]

-- the places directly below a place
abbrev pub children : List Stream → Bool → Pid × ℕ → List (Pid × ℕ)
children streams across x = elim (event_at streams x.0 x.1) [
  | None ↦ []
  | Some e ↦ children_of streams across x.0 x.1 e
]

-- the tree of n levels from a place down: the place, and then what is below it
abbrev pub tree : List Stream → Bool → ℕ → ℕ → Pid × ℕ → List Node
tree streams across zero depth x = []
tree streams across (suc n) depth x =
    node depth x
    ∷ flat_map (λ y. tree streams across n (depth + 1) y) (children streams across x)
