-- The send that a receive took. Counts may repeat on a node, so a message is known by all that its
-- events say of it, and alike messages are taken in order.
use Rattle.std.specs.Prelude.{ℕ, ◌==◌, ◌&&◌, zero, suc, Bool, List, [], ◌∷◌, ◌++◌, length}
use Rattle.std.specs.Prelude.{Option, Some, None, option_map, if◌then◌else◌, is_none, count_by, map}
use Rattle.std.specs.Option.{unwrap_or}
use Rattle.st_core.specs.declared.types.Pid.{Pid}
use Rattle.st_core.specs.declared.types.Kind.{Kind}
use Rattle.st_core.specs.declared.types.Kind.TheVariants as kind
use Rattle.st_core.specs.declared.types.Event.{Event}
use Rattle.st_core.specs.Pid.{pid_eq}
use Rattle.st_core.specs.Event.{kind_eq, to_eq}
use Rattle.st_core.specs.Run.{Stream}
use Rattle.st_core.specs.Streams.{events_of}
use Rattle.node_streams.specs.declared.content.MessageContent.{MessageContent}

-- the message of an event, as the event tells it
abbrev pub content_of : Event → MessageContent
content_of e = record {
  from = e.from;
  to = e.to;
  label = e.label.0;
  prev = e.serial.prev;
  this = e.serial.this;
  value = e.value;
}

abbrev pub content_eq : MessageContent → MessageContent → Bool
content_eq c d = pid_eq c.from d.from && (to_eq c.to d.to
    && (c.label == d.label && (c.prev == d.prev && (c.this == d.this && c.value == d.value))))

-- whether the event is of kind k, and its message has the content c
abbrev pub tells : Kind → MessageContent → Event → Bool
tells k c e = kind_eq e.kind k && content_eq (content_of e) c

-- the index of the event that passes the test after n others
abbrev pub nth : (Event → Bool) → ℕ → List Event → Option ℕ
nth test n [] = None
nth test n (e ∷ es) = if test e
    then elim n [ zero ↦ Some 0 | suc m ↦ option_map suc (nth test m es) ]
    else option_map suc (nth test n es)

-- the process that reports a message's end of the kind: its sender, or its receiver
abbrev pub owner : Kind → MessageContent → Pid
owner kind.Send c = c.from
owner kind.Receive c = unwrap_or c.to c.from
owner kind.Print c = c.from

-- the index of the send that a receive took, in its sender's stream: as many alike messages were
-- sent before it as its process had received before. None if too few were sent
abbrev pub send_of : List Stream → List Event → Event → Option ℕ
send_of streams before e =
    (let c = content_of e in
    nth (tells kind.Send c) (count_by (tells kind.Receive c) before) (events_of streams e.from))

abbrev pub takes_message : Event → Bool
takes_message e = kind_eq e.kind kind.Receive

-- whether an event is the receive of a message that nobody sent, as far as was reported
abbrev pub is_unsent : List Stream → List Event → Event → Bool
is_unsent streams before e = takes_message e && is_none (send_of streams before e)

-- the places of unsent receives among the events, before which p reported others
abbrev pub unsent_from : List Stream → Pid → List Event → List Event → List (Pid × ℕ)
unsent_from streams p before [] = []
unsent_from streams p before (e ∷ es) =
    (if is_unsent streams before e then (p, length before) ∷ [] else [])
    ++ unsent_from streams p (before ++ e ∷ []) es

-- the places of unsent receives in the streams of the processes
abbrev pub unsent_among : List Stream → List Pid → List (Pid × ℕ)
unsent_among streams [] = []
unsent_among streams (p ∷ ps) =
    unsent_from streams p [] (events_of streams p) ++ unsent_among streams ps

-- the index of the other end of an event's message, in the stream of the process that reports it:
-- a receive's send, or a send's receive, which is found in the same way; none if too few were
-- reported
abbrev pub other_end_of : List Stream → List Event → Event → Option ℕ
other_end_of streams before e = let c = content_of e in elim e.kind [
  | kind.Send ↦ nth (tells kind.Receive c) (count_by (tells kind.Send c) before)
      (events_of streams (owner kind.Receive c))
  | kind.Receive ↦ send_of streams before e
  | kind.Print ↦ None
]

-- the results of f for each event and the events before it, which begin with the given ones
abbrev pub each_from : {A : Type 0} → (List Event → Event → A) → List Event → List Event → List A
each_from f before [] = []
each_from f before (e ∷ es) = f before e ∷ each_from f (before ++ e ∷ []) es

abbrev pub partners : List Stream → List Event → List (Option ℕ)
partners streams es = each_from (other_end_of streams) [] es

-- the partners in each process's stream
abbrev pub all_partners : List Stream → List (List (Option ℕ))
all_partners streams = map (λ x. partners streams x.events) streams

-- the index of the send that an event took, if the event is a receive
abbrev pub taken_send : List Stream → List Event → Event → Option ℕ
taken_send streams before e = if takes_message e then send_of streams before e else None

-- the sends that a process's events took
abbrev pub taken_sends : List Stream → List Event → List (Option ℕ)
taken_sends streams es = each_from (taken_send streams) [] es

-- the sends that each process's events took
abbrev pub all_taken_sends : List Stream → List (List (Option ℕ))
all_taken_sends streams = map (λ x. taken_sends streams x.events) streams
