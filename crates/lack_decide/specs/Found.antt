-- For the parts alone: a reason as it is found, by one test of all events after the other; and a
-- finding, which is a completion or a reason.
use Rattle.std.specs.Prelude.{◌≡◌, ℕ, ◌<◌, ◌≤◌, false, List, Some, None}
use Rattle.st_core.specs.declared.types.Pid.{Pid}
use Rattle.st_core.specs.declared.types.Event.{Event}
use Rattle.st_core.specs.Run.{Stream}
use Rattle.st_pair.specs.declared.answer.PairFault.TheVariants as fault
use Rattle.st_pair.specs.Pairing.{refusal}
use Rattle.st_pair.specs.Places.{event_at, is_stamp}
use Rattle.lack_laws.specs.Needs.{HoldsOfNone, is_late}
use Rattle.lack_laws.specs.Reasons.{HoldsAt, is_too_high}
use Rattle.lack_laws.specs.OpenReasons.{IsLeastPlace, IsUnfounded}
use Rattle.lack_needs.specs.Completions.{Completes}
use Rattle.lack_decide.specs.declared.answer.Never.{Never}
use Rattle.lack_decide.specs.declared.answer.Never.TheVariants as never
use Rattle.lack_decide.specs.declared.answer.Answer.{Answer}
use Rattle.lack_decide.specs.declared.answer.Answer.TheVariants as answer

-- event j of p is the last event before event i whose count isn't lower, and it is a receive
pub record IsLastHigherAt (streams : List Stream) (p : Pid) (i j : ℕ) : Type 0 where
  pub event : Event
  pub at : event_at streams p i ≡ Some event
  pub receive : Event
  pub there : event_at streams p j ≡ Some receive
  pub before : j < i
  pub receives : is_stamp receive ≡ false
  pub high : event.serial.this ≤ receive.serial.this
  pub last : (k : ℕ) (f : Event) → j < k → k < i → event_at streams p k ≡ Some f
      → f.serial.this < event.serial.this

-- pairing finds no fault, event i of p is the first late event, and event j the last one before it
-- whose count isn't lower
pub record IsFirstLate (streams : List Stream) (p : Pid) (i j : ℕ) : Type 0 where
  pub accepted : refusal streams ≡ None
  pub least : IsLeastPlace (HoldsAt is_late streams) p i
  pub higher : IsLastHigherAt streams p i j

-- pairing finds no fault, no stamp is late, and event i of p is the first unfounded event
pub record IsFirstUnfounded (streams : List Stream) (p : Pid) (i : ℕ) : Type 0 where
  pub accepted : refusal streams ≡ None
  pub timely : HoldsOfNone is_late streams
  pub least : IsLeastPlace (IsUnfounded streams) p i

-- pairing finds no fault, no event is late or unfounded, and event i of p is the first whose count
-- is above TOP
pub record IsFirstTooHigh (top : ℕ) (streams : List Stream) (p : Pid) (i : ℕ) : Type 0 where
  pub accepted : refusal streams ≡ None
  pub timely : HoldsOfNone is_late streams
  pub founded : (q : Pid) (j : ℕ) → ¬ IsUnfounded streams q j
  pub least : IsLeastPlace (HoldsAt (is_too_high top) streams) p i

-- the reason holds at event i of p and at no event before it, and no reason before it holds
abbrev pub IsFoundReason : ℕ → List Stream → Pid → ℕ → Never → Type 0
IsFoundReason top streams p i never.PrevNotBefore = refusal streams ≡ Some (fault.PrevNotBefore p i)
IsFoundReason top streams p i (never.NotRising j) = refusal streams ≡ Some (fault.NotRising p i j)
IsFoundReason top streams p i (never.Repeated q j) = refusal streams ≡ Some (fault.Repeated p i q j)
IsFoundReason top streams p i (never.Mismatch q j) = refusal streams ≡ Some (fault.Mismatch p i q j)
IsFoundReason top streams p i (never.Late j) = IsFirstLate streams p i j
IsFoundReason top streams p i never.Unfounded = IsFirstUnfounded streams p i
IsFoundReason top streams p i never.TooHigh = IsFirstTooHigh top streams p i

-- the finding is a completion, or a reason that holds
abbrev pub IsFound : ℕ → List Stream → Answer → Type 0
IsFound top streams (answer.Whole completed) = Completes top streams completed
IsFound top streams (answer.Never p i reason) = IsFoundReason top streams p i reason
