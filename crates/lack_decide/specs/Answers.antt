-- The meaning of the results: a completion, or an event and the reason why no acts without a reset
-- show the streams, whatever other processes report nothing.
use Rattle.std.specs.Prelude.{◌≡◌, ◌⊎◌, ℕ, ◌<◌, ◌≤◌, ◌||◌, true, false, length, List, Some, is_none}
use Rattle.std.specs.Prelude.{is_some, take}
use Rattle.st_core.specs.declared.types.Act.{Act}
use Rattle.st_core.specs.declared.types.Pid.{Pid}
use Rattle.st_core.specs.declared.types.Event.{Event}
use Rattle.st_core.specs.Laws.{NoReset}
use Rattle.st_core.specs.Run.{Shows, Stream}
use Rattle.st_core.specs.Streams.{events_of}
use Rattle.st_core.specs.Verdict.{IsVerdict, Yes}
use Rattle.st_pair.specs.Laws.{IsEarlier}
use Rattle.st_pair.specs.Pairing.{is_send, stamp_of}
use Rattle.st_pair.specs.Places.{event_at, is_stamp}
use Rattle.st_plan.specs.Marks.{all_streams}
use Rattle.lack_laws.specs.Completed.{IsShownInOneTrace}
use Rattle.lack_laws.specs.Needs.{is_need}
use Rattle.lack_laws.specs.OpenReasons.{HasNoOpenReason}
use Rattle.lack_laws.specs.Silent.{with_silent}
use Rattle.lack_needs.specs.Completions.{Completed, Completes}
use Rattle.lack_decide.specs.declared.answer.Never.{Never}
use Rattle.lack_decide.specs.declared.answer.Never.TheVariants as never
use Rattle.lack_decide.specs.declared.answer.Certificate.{Certificate}
use Rattle.lack_decide.specs.declared.answer.CompleteFault.{CompleteFault}
use Rattle.lack_decide.specs.declared.answer.CompleteFault.TheVariants as fault
use Rattle.lack_decide.specs.declared.answer.Answer.{Answer}
use Rattle.lack_decide.specs.declared.answer.Answer.TheVariants as answer

-- THE REASONS

-- event j of p has the property `Is`, and no event between it and event i has it
pub record IsLast (streams : List Stream) (p : Pid) (i : ℕ) (Is : Event → Type 0) (j : ℕ)
    : Type 0 where
  pub event : Event
  pub at : event_at streams p j ≡ Some event
  pub before : j < i
  pub is : Is event
  pub last : (k : ℕ) (f : Event) → j < k → k < i → event_at streams p k ≡ Some f → ¬ Is f

-- f is a send with the label, the prev, the receiver and the value of e
abbrev pub IsSendOf : Event → Event → Type 0
IsSendOf f e = (is_send f ≡ true) × (f.label ≡ e.label) × (f.serial.prev ≡ e.serial.prev)
    × (f.to ≡ e.to) × (f.value ≡ e.value)

-- event e is a send or print, and an event of p before index i is a receive
abbrev pub IsAfterReceive : List Stream → Pid → ℕ → Event → Type 0
IsAfterReceive streams p i e = (is_stamp e ≡ true) × (j : ℕ) × (f : Event) × (j < i)
    × (event_at streams p j ≡ Some f) × (is_stamp f ≡ false)

-- event e is a send or print, or the receive of a send that its sender didn't report, and some
-- event tells of a send or print of the same process with a lower count and another prev than 0
abbrev pub IsAfterStamp : List Stream → Event → Type 0
IsAfterStamp streams e =
    ((is_stamp e || is_none (stamp_of streams e.from e.serial.this)) ≡ true)
    × (q : Pid) × (j : ℕ) × (f : Event) × (event_at streams q j ≡ Some f) × (f.from ≡ e.from)
    × (f.serial.this < e.serial.this) × (0 < f.serial.prev)

-- the reason holds of e, which is event i of p
abbrev pub IsAgainst : ℕ → List Stream → Pid → ℕ → Event → Never → Type 0
IsAgainst top streams p i e never.PrevNotBefore = e.serial.this ≤ e.serial.prev
IsAgainst top streams p i e (never.NotRising j) = (is_stamp e ≡ true)
    × (f : IsLast streams p i (λ f. is_stamp f ≡ true) j) × (e.serial.this ≤ f.event.serial.this)
IsAgainst top streams p i e (never.Repeated q j) = (is_stamp e ≡ false) × IsEarlier q j p i
    × (f : Event) × (event_at streams q j ≡ Some f) × (is_stamp f ≡ false) × (f.from ≡ e.from)
    × (f.serial.this ≡ e.serial.this)
IsAgainst top streams p i e (never.Mismatch q j) = (is_stamp e ≡ false) × (q ≡ e.from)
    × (f : Event) × (stamp_of streams q e.serial.this ≡ Some (j, f)) × (¬ IsSendOf f e)
IsAgainst top streams p i e (never.Late j) = (is_stamp e ≡ true)
    × IsLast streams p i (λ f. (is_stamp f ≡ false) × (e.serial.this ≤ f.serial.this)) j
IsAgainst top streams p i e never.Unfounded = (e.serial.prev ≡ 0)
    × (IsAfterReceive streams p i e ⊎ IsAfterStamp streams e)
IsAgainst top streams p i e never.TooHigh = top < e.serial.this

-- the rank of a reason in the order in which `complete` tries them
abbrev pub reason_rank : Never → ℕ
reason_rank never.PrevNotBefore = 0
reason_rank (never.NotRising j) = 1
reason_rank (never.Repeated q j) = 2
reason_rank (never.Mismatch q j) = 3
reason_rank (never.Late j) = 4
reason_rank never.Unfounded = 5
reason_rank never.TooHigh = 6

-- The reason holds of event i of p. No reason with a lower rank holds of any event, and none with
-- the same rank of an event before.
pub record IsFirstReason (top : ℕ) (streams : List Stream) (p : Pid) (i : ℕ) (reason : Never)
    : Type 0 where
  pub event : Event
  pub at : event_at streams p i ≡ Some event
  pub holds : IsAgainst top streams p i event reason
  pub first : (other : Never) (q : Pid) (j : ℕ) (f : Event) → event_at streams q j ≡ Some f
      → IsAgainst top streams q j f other → reason_rank reason ≤ reason_rank other
  pub least : (other : Never) (q : Pid) (j : ℕ) (f : Event) → event_at streams q j ≡ Some f
      → IsAgainst top streams q j f other → reason_rank reason ≡ reason_rank other
      → ¬ IsEarlier q j p i

-- THE RESULTS

-- no acts without a reset show the streams with any other processes that report nothing
abbrev pub NeverShownWithOthers : ℕ → List Stream → Type 0
NeverShownWithOthers top streams = (others : List Pid) (acts : List Act) → NoReset acts
    → ¬ Shows top (with_silent streams others) acts

-- the reason is final: no acts without a reset show the streams, however far clocks go; for
-- TooHigh, if they go up to TOP
abbrev pub IsFinal : ℕ → List Stream → Never → Type 0
IsFinal top streams never.TooHigh = NeverShownWithOthers top streams
IsFinal top streams reason = (most : ℕ) → NeverShownWithOthers most streams

-- No send and no receive is missing in the streams: acts without a reset show them; each message
-- that was received has the count of a send or print of its sender; and the prev of each send and
-- print is what the events before it leave, or a new trace can begin with it.
pub record LacksNothing (top : ℕ) (streams : List Stream) : Type 0 where
  pub shown : IsShownInOneTrace top streams
  pub sent : (p : Pid) (i : ℕ) (e : Event) → event_at streams p i ≡ Some e
      → (is_stamp e || is_some (stamp_of streams e.from e.serial.this)) ≡ true
  pub caused : (p : Pid) (i : ℕ) (e : Event) → event_at streams p i ≡ Some e
      → is_need (take i (events_of streams p)) e ≡ false

-- The streams have the completion, so acts without a reset show them with its unlisted processes;
-- nothing is missing in all of its events; and no reason holds of any event of the streams.
pub record IsWhole (top : ℕ) (streams : List Stream) (completed : Completed) : Type 0 where
  pub completes : Completes top streams completed
  pub shown : IsShownInOneTrace top (with_silent streams completed.unlisted)
  pub lacks : LacksNothing top (all_streams completed.wholes)
  pub unopposed : (reason : Never) (p : Pid) (i : ℕ) (e : Event) → event_at streams p i ≡ Some e
      → ¬ IsAgainst top streams p i e reason

-- the reason is the first one that holds, and is final
pub record IsNever (top : ℕ) (streams : List Stream) (p : Pid) (i : ℕ) (reason : Never)
    : Type 0 where
  pub holds : IsFirstReason top streams p i reason
  pub final : IsFinal top streams reason

-- the acts show the streams without a reset, are at most `most`, and the checker says yes to them
-- with these pairs
pub record IsCertificate (top : ℕ) (streams : List Stream) (most : ℕ) (found : Certificate)
    : Type 0 where
  pub verdict : IsVerdict top streams found.acts (Yes found.pairs)
  pub shows : Shows top streams found.acts
  pub one_trace : NoReset found.acts
  pub within : length found.acts ≤ most

-- the answer is a completion, or a reason that is final
abbrev pub IsAnswer : ℕ → List Stream → Answer → Type 0
IsAnswer top streams (answer.Whole completed) = IsWhole top streams completed
IsAnswer top streams (answer.Never p i reason) = IsNever top streams p i reason

-- a fault tells that no reason holds of the streams, unless memory ran out
abbrev pub IsFaultOf : ℕ → List Stream → CompleteFault → Type 0
IsFaultOf top streams fault.Memory = Unit {0}
IsFaultOf top streams fault.Uncompleted = HasNoOpenReason top streams
