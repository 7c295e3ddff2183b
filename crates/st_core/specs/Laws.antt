-- Laws of the machine: what one act leaves alone, what every run keeps, and what every run without
-- a reset keeps.
use Rattle.std.specs.Prelude.{◌≡◌, ◌≢◌, ℕ, ◌+◌, ◌<◌, ◌≤◌, ◌⊎◌, max, Bool, true, false, List, []}
use Rattle.std.specs.Prelude.{◌∷◌, length, map, take, Some, None, is_some, IsSome, slice_get, All}
use Rattle.std.specs.Prelude.{AllPairs, option_and_then}
use Rattle.std.specs.List.{AllByRecursion}
use Rattle.std.specs.Option.{ForSome, option_map_or}
use Rattle.st_core.specs.declared.types.Pid.{Pid}
use Rattle.st_core.specs.declared.types.Token.{Token}
use Rattle.st_core.specs.declared.types.Message.{Message}
use Rattle.st_core.specs.declared.types.Event.{Event}
use Rattle.st_core.specs.declared.types.Kind.TheVariants as kind
use Rattle.st_core.specs.declared.types.Act.{Act}
use Rattle.st_core.specs.declared.types.Act.TheVariants as act
use Rattle.st_core.specs.Pid.{IsBelow}
use Rattle.st_core.specs.State.{Process, State, process}
use Rattle.st_core.specs.Local.{has_label}
use Rattle.st_core.specs.Pick.{pick}
use Rattle.st_core.specs.Step.{Outcome, actor, touches}
use Rattle.st_core.specs.Run.{Stream, stream}
use Rattle.st_core.specs.Streams.{is_own, names_among, events_of, names_listed}

-- an act leaves each process that it doesn't touch as it was, and no process comes or goes
pub record LeavesOthers (a : Act) (before after : State) : Type 0 where
  pub pids : map (λ r. r.pid) after ≡ map (λ r. r.pid) before
  pub untouched : (p : Pid) → touches a p ≡ false → process after p ≡ process before p

-- t is as a stamp of p's leaves it: from p, with prev below this, and this at most TOP
pub record IsStamped (top : ℕ) (p : Pid) (t : Token) : Type 0 where
  pub from : t.from ≡ p
  pub rises : t.serial.prev < t.serial.this
  pub within : t.serial.this ≤ top

-- a sound process, as every run keeps it: the last count is at most the clock, the clock at most
-- TOP, and the token of each queued message, if it has one, was stamped by the message's sender
pub record IsSound (top : ℕ) (r : Process) : Type 0 where
  pub ordered : r.local.last ≤ r.local.clock
  pub within : r.local.clock ≤ top
  pub queued : All (λ m. ForSome m.token (IsStamped top m.from)) r.queue

-- after an act all processes are sound, and its report, if it has one, has prev below this
pub record KeepsSound (top : ℕ) (o : Outcome) : Type 0 where
  pub processes : All (IsSound top) o.after
  pub report : ForSome o.report (λ e. e.serial.prev < e.serial.this)

-- an event that p may report among these processes: it is p's own, and names only them
pub record IsReportAmong (pids : List Pid) (p : Pid) (e : Event) : Type 0 where
  pub own : is_own p e ≡ true
  pub names : names_among pids e ≡ true

-- the report of an act, if it has one, is its actor's own event and names only these processes
abbrev pub ReportsAmong : List Pid → Act → Outcome → Type 0
ReportsAmong pids a o = ForSome o.report (IsReportAmong pids (actor a))

-- act n is p's and reports e
pub record Reports (acts : List Act) (os : List Outcome) (p : Pid) (n : ℕ)
    (e : Event) : Type 0 where
  pub act : Act
  pub at : slice_get acts n ≡ Some act
  pub own : actor act ≡ p
  pub report : option_and_then (λ o. o.report) (slice_get os n) ≡ Some e

-- act n reports event i of p's stream: the acts before it report the i events before e
pub record ReportsEvent (acts : List Act) (os : List Outcome) (p : Pid) (i : ℕ) (e : Event)
    (n : ℕ) : Type 0 where
  pub reports : Reports acts os p n e
  pub before : length (stream (take n acts) (take n os) p) ≡ i

-- the act is a reset
abbrev pub is_reset : Act → Bool
is_reset (act.Reset p) = true
is_reset a = false

-- none of the acts is a reset
abbrev pub NoReset : List Act → Type 0
NoReset acts = AllByRecursion (λ a. is_reset a ≡ false) acts

-- p's clock, 0 if p isn't there
abbrev pub clock_in : State → Pid → ℕ
clock_in s p = elim (process s p) [ None ↦ 0 | Some r ↦ r.local.clock ]

-- no process's clock falls from one outcome to a later one
abbrev pub ClocksNeverFall : List Outcome → Type 0
ClocksNeverFall os =
    AllPairs (λ o later. (p : Pid) → clock_in o.after p ≤ clock_in later.after p) os

-- the act stamped t, if t is its actor's token after it: a send or a print stamps any token, a
-- printat only a token with its label
abbrev pub stamps : Act → Token → Bool
stamps (act.Send p q v) t = true
stamps (act.Print p v) t = true
stamps (act.PrintAt p n v) t = has_label n (Some t)
stamps a t = false

-- act n is p's and stamped the token t
pub record StampsToken (acts : List Act) (os : List Outcome) (p : Pid) (n : ℕ)
    (t : Token) : Type 0 where
  pub act : Act
  pub at : slice_get acts n ≡ Some act
  pub own : actor act ≡ p
  pub stamped : stamps act t ≡ true
  pub after : Process
  pub is_after : option_and_then (λ o. process o.after p) (slice_get os n) ≡ Some after
  pub token : after.local.token ≡ Some t

-- the tokens of two messages, if one process stamped both, have different counts
abbrev pub AreApart : Message → Message → Type 0
AreApart m n = (t u : Token) → m.token ≡ Some t → n.token ≡ Some u → t.from ≡ u.from
    → t.serial.this ≢ u.serial.this

-- no two of these messages have the same stamp
abbrev pub StampsStandOnce : List Message → Type 0
StampsStandOnce [] = Unit {0}
StampsStandOnce (m ∷ ms) = AllByRecursion (AreApart m) ms × StampsStandOnce ms

-- if the message has a token, the process that stamped it has a clock of at least the token's
-- count
abbrev pub IsStampedBefore : State → Message → Type 0
IsStampedBefore s m = ForSome m.token (λ t. t.serial.this ≤ clock_in s t.from)

-- no queue holds two messages with the same stamp, and no queued stamp is above the clock of the
-- process that stamped it
pub record HasStampsOnce (s : State) : Type 0 where
  pub once : (p : Pid) (r : Process) → process s p ≡ Some r → StampsStandOnce r.queue
  pub before : (p : Pid) (r : Process) → process s p ≡ Some r
      → AllByRecursion (IsStampedBefore s) r.queue

-- no message of one queue has the stamp of a message of the other
abbrev pub AreAllApart : List Message → List Message → Type 0
AreAllApart ms ns = AllByRecursion (λ m. AllByRecursion (AreApart m) ns) ms

-- no stamp is in the queues of two processes
abbrev pub HasQueuesApart : State → Type 0
HasQueuesApart s = (p q : Pid) (x y : Process) → p ≢ q → process s p ≡ Some x → process s q ≡ Some y
    → AreAllApart x.queue y.queue

-- act n lifts p's clock to this count: the clock is at the count after act n, and below it after
-- each earlier act. So at most one act lifts a clock to a count, and a later act to a greater one
pub record LiftsClock (os : List Outcome) (p : Pid) (this n : ℕ) : Type 0 where
  pub outcome : Outcome
  pub at : slice_get os n ≡ Some outcome
  pub reaches : clock_in outcome.after p ≡ this
  pub above : (m : ℕ) (o : Outcome) → m < n → slice_get os m ≡ Some o → clock_in o.after p < this

-- the act stamps a token, or takes a message that has one
abbrev pub moves_token : Process → Act → Bool
moves_token r (act.Send p q v) = is_some r.local.token
moves_token r (act.Receive p w) =
    option_map_or (λ found. is_some found.1.token) (pick w r.queue) false
moves_token r (act.Print p v) = is_some r.local.token
moves_token r (act.PrintAt p n v) = has_label n r.local.token
moves_token r a = false

-- in a run from s each act that stamps a token, or takes a message that has one, is reported
abbrev pub ReportsEverything : State → List Act → List Outcome → Type 0
ReportsEverything s [] os = Unit {0}
ReportsEverything s (a ∷ rest) [] = Unit {0}
ReportsEverything s (a ∷ rest) (o ∷ os) =
    ((r : Process) → process s (actor a) ≡ Some r → moves_token r a ≡ true → IsSome o.report)
    × ReportsEverything o.after rest os

-- the greatest count of these events, 0 if there are none
abbrev pub greatest_count : List Event → ℕ
greatest_count [] = 0
greatest_count (e ∷ es) = max e.serial.this (greatest_count es)

-- the last serial that these events leave: `this` of the last event if it is a receive, else its
-- prev; 0 if there are no events
abbrev pub prev_after : List Event → ℕ
prev_after [] = 0
prev_after (e ∷ []) = elim e.kind [
  | kind.Send ↦ e.serial.prev
  | kind.Receive ↦ e.serial.this
  | kind.Print ↦ e.serial.prev
]
prev_after (e ∷ f ∷ es) = prev_after (f ∷ es)

-- the send or print e goes on from these events of its process: it has the next count, and its
-- prev is the last serial that they leave or, in a new trace, their greatest count
pub record GoesOnFrom (es : List Event) (e : Event) : Type 0 where
  pub count : e.serial.this ≡ greatest_count es + 1
  pub prev : (e.serial.prev ≡ prev_after es) ⊎ (e.serial.prev ≡ greatest_count es)

-- each pid that an event names is listed
abbrev pub AreAllListed : List Stream → Type 0
AreAllListed streams = (p : Pid) (i : ℕ) (e : Event) → slice_get (events_of streams p) i ≡ Some e
    → names_listed streams e ≡ true

-- event i of p names a pid that isn't listed, and no event before it does: none of p's with a lower
-- index, and none of a process with a lower pid
pub record IsLeastUnlisted (streams : List Stream) (p : Pid) (i : ℕ) : Type 0 where
  pub event : Event
  pub at : slice_get (events_of streams p) i ≡ Some event
  pub names : names_listed streams event ≡ false
  pub earlier : (j : ℕ) (e : Event) → j < i → slice_get (events_of streams p) j ≡ Some e
      → names_listed streams e ≡ true
  pub lower : (q : Pid) (j : ℕ) (e : Event) → IsBelow q p
      → slice_get (events_of streams q) j ≡ Some e
      → names_listed streams e ≡ true
