-- The record of a replay while the acts have a run, for the contracts of its parts alone; the
-- result of a replay is in `Answers`.
use Rattle.std.specs.Prelude.{◌≡◌, ℕ, Bool, List, [], map, Some, if◌then◌else◌}
use Rattle.st_core.specs.declared.types.Pid.{Pid}
use Rattle.st_core.specs.declared.types.Act.{Act}
use Rattle.st_core.specs.declared.types.Reply.{Reply}
use Rattle.st_core.specs.State.{State, zero_state}
use Rattle.st_core.specs.Step.{Outcome}
use Rattle.st_core.specs.Run.{Stream, run}
use Rattle.st_check.specs.declared.verdict.Replayed.{Replayed}
use Rattle.st_check.specs.declared.verdict.Replayed.TheVariants as replayed
use Rattle.st_check.specs.Progress.{state_from}
use Rattle.st_check.specs.Answers.{reported_streams, SticksAt}

-- the replies of these outcomes, if they are kept
abbrev pub kept_replies : Bool → List Outcome → List Reply
kept_replies keeps os = if keeps then map (λ o. o.reply) os else []

-- the acts have a run, and these are the state after it, its streams, and its replies if they are
-- kept
pub record IsReplayedTo (top : ℕ) (pids : List Pid) (acts : List Act) (keeps : Bool) (s : State)
    (streams : List Stream)
    (replies : List Reply) : Type 0 where
  pub outcomes : List Outcome
  pub runs : run top pids acts ≡ Some outcomes
  pub is_state : s ≡ state_from (zero_state pids) outcomes
  pub are_streams : streams ≡ reported_streams pids acts outcomes
  pub are_replies : replies ≡ kept_replies keeps outcomes

-- the acts have a run, and these are its streams, and its replies if they are kept
pub record IsRun (keeps : Bool) (top : ℕ) (pids : List Pid) (acts : List Act)
    (streams : List Stream)
    (replies : List Reply) : Type 0 where
  pub outcomes : List Outcome
  pub runs : run top pids acts ≡ Some outcomes
  pub are_streams : streams ≡ reported_streams pids acts outcomes
  pub are_replies : replies ≡ kept_replies keeps outcomes

-- the record of all acts: their run, or the first act that has no step
abbrev pub IsRunRecord : Bool → ℕ → List Pid → List Act → Replayed → Type 0
IsRunRecord keeps top pids acts (replayed.Ran streams replies) =
    IsRun keeps top pids acts streams replies
IsRunRecord keeps top pids acts (replayed.Stuck n) = SticksAt top pids acts n
