-- The results of a world's public calls.
use Rattle.std.specs.Prelude.{◌≡◌, ℕ, ◌<◌, ◌≤◌, true, ◌⊎◌, List, Option, Some, None, Result, Err}
use Rattle.std.specs.Prelude.{IsSome, IfSome, IfOk, IfErr, OnErr, All, option_and_then, position}
use Rattle.std.specs.Option.{ForSome}
use Rattle.st_core.specs.declared.types.Pid.{Pid}
use Rattle.st_core.specs.declared.types.Token.{Token}
use Rattle.st_core.specs.declared.types.Message.{Message}
use Rattle.st_core.specs.declared.types.Event.{Event}
use Rattle.st_core.specs.declared.types.Act.{Act}
use Rattle.st_core.specs.Laws.{IsStamped}
use Rattle.st_core.specs.Pid.{IsRising}
use Rattle.st_core.specs.State.{LocalState, State, process}
use Rattle.st_core.specs.Step.{Outcome, actor, receiver, step}
use Rattle.st_mail.specs.Actor.{is_send_act}
use Rattle.st_mail.specs.Mail.{bears_stamp}
use Rattle.st_mail.specs.declared.outcome.Outcome.{Outcome as Told}
use Rattle.st_world.specs.declared.outcome.NewFault.{NewFault}
use Rattle.st_world.specs.declared.outcome.NewFault.TheVariants as new_fault
use Rattle.st_world.specs.declared.outcome.StepFault.{StepFault}
use Rattle.st_world.specs.declared.outcome.StepFault.TheVariants as fault

-- the step's outcome that returns `told` and leaves the state `new`
abbrev pub outcome_to : Told → State → Outcome
outcome_to told new = record {
  reply = told.reply;
  report = told.report;
  place = told.place;
  after = new;
}

-- why a new world is refused: for its pids if they don't rise, and otherwise for memory
abbrev pub IsNewFault : List Pid → NewFault → Type 0
IsNewFault pids new_fault.Memory = IsRising pids
IsNewFault pids new_fault.NotRising = ¬ IsRising pids

-- why a step is refused. At most one of the three cases holds, and in the last two the act has no
-- step, so each of these two comes if and only if its case holds
abbrev pub IsFault : ℕ → State → Act → StepFault → Type 0
IsFault top s a fault.Memory = IsSome (step top s a)
IsFault top s a fault.Unknown = (process s (actor a) ≡ None) ⊎ (process s (receiver a) ≡ None)
IsFault top s a fault.ClockFull =
    IsSome (process s (actor a)) × IsSome (process s (receiver a)) × (step top s a ≡ None)

-- the token of p, if p is in the state and has one
abbrev pub token_of : State → Pid → Option Token
token_of s p = option_and_then (λ r. r.local.token) (process s p)

-- the least place of p's queue whose message's token has the from `from` and the own count `this`
abbrev pub place_in : State → Pid → Pid → ℕ → Option ℕ
place_in s p from this =
    option_and_then (λ r. position (λ m. bears_stamp from this m.token) r.queue) (process s p)

-- the last count is at most the clock, and the clock at most `top`
pub record AreOrdered (top : ℕ) (l : LocalState) : Type 0 where
  pub last : l.last ≤ l.clock
  pub clock : l.clock ≤ top

-- each token in the queue was stamped by the sender of its message
abbrev pub AreStamped : ℕ → List Message → Type 0
AreStamped top queue = All (λ m. ForSome m.token (IsStamped top m.from)) queue

-- the serial of the event rises: its prev is below its own count
abbrev pub Rises : Event → Type 0
Rises e = e.serial.prev < e.serial.this

-- what a step of the act returns and leaves, from the state `old` to `new`: all clauses of
-- `World::step`, for the functions that it consists of
pub record IsStep (top : ℕ) (old : State) (a : Act) (r : Result Told StepFault)
    (new : State) : Type 0 where
  pub steps : IfOk r (λ told. step top old a ≡ Some (outcome_to told new))
  pub rises : IfOk r (λ told. IfSome told.report Rises)
  pub stays : OnErr r (new ≡ old)
  pub refused : IfErr r (IsFault top old a)
  pub stepless : IfErr r (λ f. (f ≡ fault.Memory) ⊎ (step top old a ≡ None))
  pub memory : r ≡ Err fault.Memory → is_send_act a ≡ true
