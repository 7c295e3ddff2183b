-- Says what the lists of ends and the walk over all events keep.
use Rattle.std.specs.Prelude.{◌≡◌, ℕ, ◌+◌, true, Bool, List, [], ◌∷◌, ◌++◌, length, take}
use Rattle.std.specs.Prelude.{Option, Some, None, count_by, if◌then◌else◌, slice_get}
use Rattle.std.specs.Option.{option_cmp}
use Rattle.std.specs.List.{filter}
use Rattle.std.specs.List.Sorted.{IsSortedByKey}
use Rattle.std.specs.Ordering.{nat_cmp, ordering_then}
use Rattle.std.specs.declared.cmp.Ordering.{Ordering}
use Rattle.st_core.specs.declared.types.Pid.{Pid}
use Rattle.st_core.specs.declared.types.Kind.{Kind}
use Rattle.st_core.specs.declared.types.Kind.TheVariants as kind
use Rattle.st_core.specs.declared.types.Event.{Event}
use Rattle.st_core.specs.Event.{kind_eq}
use Rattle.st_core.specs.Pid.{pid_cmp, pid_eq}
use Rattle.st_core.specs.Run.{Stream, pids_of}
use Rattle.st_core.specs.Streams.{IsStreams, events_of}
use Rattle.node_streams.specs.declared.content.MessageContent.{MessageContent}
use Rattle.node_streams.specs.declared.ends.End.{End}
use Rattle.node_streams.specs.declared.walk.Walk.{Walk}
use Rattle.node_streams.specs.Messages.{content_eq, content_of, taken_sends, tells}
use Rattle.node_streams.specs.Order.{CanGo, IsTurnOrder, next_event, turns}

-- the numbers have, at the index of each event of kind k, how many alike ones come before it
abbrev pub CountAlike : Kind → List Event → List ℕ → Type 0
CountAlike k es numbers = (i : ℕ) (e : Event) → slice_get es i ≡ Some e → kind_eq e.kind k ≡ true
    → slice_get numbers i ≡ Some (count_by (tells k (content_of e)) (take i es))

-- the ends of kind k among the events, the first of which has index i
abbrev pub ends_from : Kind → ℕ → List Event → List End
ends_from k i [] = []
ends_from k i (e ∷ es) =
    (if kind_eq e.kind k then record { content = content_of e; index = i } ∷ [] else [])
    ++ ends_from k (i + 1) es

-- whether an end has the content
abbrev pub alike : MessageContent → End → Bool
alike c x = content_eq x.content c

-- the order of contents, by one part after the other
abbrev pub content_cmp : MessageContent → MessageContent → Ordering
content_cmp c d = ordering_then (pid_cmp c.from d.from)
    (ordering_then (option_cmp pid_cmp c.to d.to)
    (ordering_then (nat_cmp c.label d.label) (ordering_then (nat_cmp c.prev d.prev)
    (ordering_then (nat_cmp c.this d.this) (nat_cmp c.value d.value)))))

-- a list has the ends sorted by content, alike ones in their order
pub record AreByContent (all sorted : List End) : Type 0 where
  pub rise : IsSortedByKey (λ (x : End). x.content) content_cmp sorted
  pub groups : (c : MessageContent) → filter (alike c) sorted ≡ filter (alike c) all

-- the lists have the ends of kind k of each process, sorted by content
pub record AreEnds (k : Kind) (streams : List Stream) (lists : List (List End)) : Type 0 where
  pub each : length lists ≡ length (pids_of streams)
  pub sorted : (i : ℕ) (p : Pid) (v : List End) → slice_get (pids_of streams) i ≡ Some p
      → slice_get lists i ≡ Some v → AreByContent (ends_from k 0 (events_of streams p)) v

-- the index of an end, if the end has the content
abbrev pub index_if : MessageContent → Option End → Option ℕ
index_if c None = None
index_if c (Some x) = if alike c x then Some x.index else None

-- the lists have the sends of the streams
pub record AreSends (streams : List Stream) (sends : List (List End)) : Type 0 where
  pub sound : IsStreams streams
  pub sent : AreEnds kind.Send streams sends

-- the lists have the sends and the receives of the streams
pub record AreBothEnds (streams : List Stream) (sends receives : List (List End)) : Type 0 where
  pub sound : IsStreams streams
  pub sent : AreEnds kind.Send streams sends
  pub received : AreEnds kind.Receive streams receives

-- the number at p's place among the pids, 0 if p isn't there
abbrev pub number_by_pid : List Pid → List ℕ → Pid → ℕ
number_by_pid [] ns p = 0
number_by_pid (q ∷ qs) [] p = 0
number_by_pid (q ∷ qs) (n ∷ ns) p = if pid_eq q p then n else number_by_pid qs ns p

-- the number of p's events that the walk has passed
abbrev pub done_in : List Stream → Walk → Pid → ℕ
done_in streams w p = number_by_pid (pids_of streams) w.done.items p

-- the walk is where the turns lead
pub record IsAt (streams : List Stream) (order : List Pid) (w : Walk) : Type 0 where
  pub each : length w.done.items ≡ length (pids_of streams)
  pub done : (p : Pid) → done_in streams w p ≡ turns p order

-- some order leads to where the walk is
pub record IsReached (streams : List Stream) (w : Walk) : Type 0 where
  pub order : List Pid
  pub is_order : IsTurnOrder streams order
  pub at : IsAt streams order w

-- the process at place i is p, which has the events, and they took the sends
pub record AreOf (streams : List Stream) (i : ℕ) (p : Pid) (events : List Event)
    (taken : List (Option ℕ)) : Type 0 where
  pub place : slice_get (pids_of streams) i ≡ Some p
  pub own : events ≡ events_of streams p
  pub sends : taken ≡ taken_sends streams (events_of streams p)

-- after the turns the process at place i can go on with the event e
pub record GoesNext (streams : List Stream) (order : List Pid) (i : ℕ) (e : Event) : Type 0 where
  pub pid : Pid
  pub place : slice_get (pids_of streams) i ≡ Some pid
  pub can : CanGo streams order pid
  pub next : next_event streams order pid ≡ Some e
