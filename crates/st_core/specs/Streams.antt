-- Streams: what each process reported, and the rules that collected streams keep (own profile).
use Rattle.std.specs.Prelude.{◌≡◌, ℕ, ◌&&◌, Bool, true, false, not, List, [], ◌∷◌, ◌++◌, map}
use Rattle.std.specs.Prelude.{length, sum_by, find}
use Rattle.std.specs.Prelude.{position, Option, Some, None, if◌then◌else◌, is_some, is_none}
use Rattle.std.specs.List.{AllByRecursion, list_any}
use Rattle.std.specs.Option.{option_map_or}
use Rattle.st_core.specs.declared.types.Pid.{Pid}
use Rattle.st_core.specs.declared.types.Kind.{Kind}
use Rattle.st_core.specs.declared.types.Kind.TheVariants as kind
use Rattle.st_core.specs.declared.types.Event.{Event}
use Rattle.st_core.specs.declared.streams.OpenFault.{OpenFault}
use Rattle.st_core.specs.declared.streams.OpenFault.TheVariants as opening
use Rattle.st_core.specs.declared.streams.AddFault.{AddFault}
use Rattle.st_core.specs.declared.streams.AddFault.TheVariants as adding
use Rattle.st_core.specs.Pid.{pid_eq, IsBelow, IsRising}
use Rattle.st_core.specs.Run.{Stream, pids_of}

-- the stream of p, if p is listed
abbrev pub stream_of : List Stream → Pid → Option Stream
stream_of streams p = find (λ x. pid_eq x.pid p) streams

-- p is listed
abbrev pub lists : List Stream → Pid → Bool
lists streams p = is_some (stream_of streams p)

-- the events of p, none if p isn't listed
abbrev pub events_of : List Stream → Pid → List Event
events_of streams p = elim (stream_of streams p) [ None ↦ [] | Some x ↦ x.events ]

-- the number of all events
abbrev pub total_of : List Stream → ℕ
total_of streams = sum_by (λ x. length x.events) streams

-- p reports an event of this kind, from and to: a send from p that has a receiver, a receive to p,
-- or a print from p that has no receiver
abbrev pub is_of : Kind → Pid → Option Pid → Pid → Bool
is_of kind.Send from to p = pid_eq from p && is_some to
is_of kind.Receive from to p = option_map_or (λ q. pid_eq q p) to false
is_of kind.Print from to p = pid_eq from p && is_none to

-- e is p's own: p is the process that reports it
abbrev pub is_own : Pid → Event → Bool
is_own p e = is_of e.kind e.from e.to p

-- p is among these pids
abbrev pub is_among : List Pid → Pid → Bool
is_among pids p = list_any (λ q. pid_eq q p) pids

-- each pid that the event names is among these
abbrev pub names_among : List Pid → Event → Bool
names_among pids e = is_among pids e.from && option_map_or (is_among pids) e.to true

-- each pid that the event names is listed
abbrev pub names_listed : List Stream → Event → Bool
names_listed streams e = lists streams e.from && option_map_or (lists streams) e.to true

-- the place, as pid and index, of the first event in these streams that names a pid which `all`
-- doesn't list
abbrev pub unlisted_among : List Stream → List Stream → Option (Pid × ℕ)
unlisted_among all [] = None
unlisted_among all (x ∷ rest) = elim (position (λ e. not (names_listed all e)) x.events) [
  | None ↦ unlisted_among all rest
  | Some i ↦ Some (x.pid, i)
]

-- the least place, by pid and then index, of an event that names an unlisted pid
abbrev pub unlisted : List Stream → Option (Pid × ℕ)
unlisted streams = unlisted_among streams streams

-- each stream has only events that its process reports
abbrev pub AreOwn : List Stream → Type 0
AreOwn streams = AllByRecursion (λ x. AllByRecursion (λ e. is_own x.pid e ≡ true) x.events) streams

-- a draft: streams by strictly rising pid, each event its process's own
pub record IsDraft (streams : List Stream) : Type 0 where
  pub rising : IsRising (pids_of streams)
  pub own : AreOwn streams

-- streams: a draft in which each pid that an event names is listed
pub record IsStreams (streams : List Stream) : Type 0 where
  pub draft : IsDraft streams
  pub listed : unlisted streams ≡ None

-- p is above all listed pids
abbrev pub ComesLast : List Stream → Pid → Type 0
ComesLast streams p = AllByRecursion (λ x. IsBelow x.pid p) streams

-- a fault in opening p: `NotRising` if p isn't above all listed pids, else `Memory`
abbrev pub IsOpenFault : List Stream → Pid → OpenFault → Type 0
IsOpenFault streams p opening.Memory = ComesLast streams p
IsOpenFault streams p opening.NotRising = ¬ ComesLast streams p

-- the stream with e at its end if it is p's, else as it was
abbrev pub with_event : Pid → Event → Stream → Stream
with_event p e x = if pid_eq x.pid p then record x { events = x.events ++ e ∷ [] } else x

-- the streams with e at the end of p's
abbrev pub added : List Stream → Pid → Event → List Stream
added streams p e = map (with_event p e) streams

-- the streams with p's report, if there is one, at the end of p's
abbrev pub with_report : List Stream → Pid → Option Event → List Stream
with_report streams p None = streams
with_report streams p (Some e) = added streams p e

-- a fault in adding e to p's stream: `Unknown` if p isn't listed, else `Foreign` if e isn't p's
-- own, else `Memory`
abbrev pub IsAddFault : List Stream → Pid → Event → AddFault → Type 0
IsAddFault streams p e adding.Memory = (lists streams p ≡ true) × (is_own p e ≡ true)
IsAddFault streams p e adding.Unknown = lists streams p ≡ false
IsAddFault streams p e adding.Foreign = (lists streams p ≡ true) × (is_own p e ≡ false)
