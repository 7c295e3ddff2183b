-- The tables while acts pass, and the reasons why the next act doesn't.
use Rattle.std.specs.Prelude.{◌≡◌, ℕ, ◌+◌, ◌<◌, ◌≤◌, IsSome, slice_get, List, [], ◌∷◌, length}
use Rattle.std.specs.Prelude.{slice_set, slice_index, take, Option, Some, None}
use Rattle.st_core.specs.declared.types.Event.{Event}
use Rattle.st_core.specs.declared.types.Pid.{Pid}
use Rattle.st_core.specs.Pid.{IsRising}
use Rattle.st_core.specs.State.{State, zero_state}
use Rattle.st_core.specs.Step.{Outcome}
use Rattle.st_core.specs.Run.{Stream, pids_of}
use Rattle.st_core.specs.Streams.{events_of}
use Rattle.node_machine.specs.Node.{NodeAct, node_run}
use Rattle.node_streams.specs.Runs.{node_stream}
use Rattle.node_check.specs.declared.processes.StepFault.{StepFault}
use Rattle.node_check.specs.declared.processes.StepFault.TheVariants as fault
use Rattle.node_check.specs.declared.progress.Progress.{Progress}
use Rattle.node_check.specs.declared.progress.Stop.{Stop}
use Rattle.node_check.specs.declared.progress.Stop.TheVariants as stop
use Rattle.node_check.specs.Kept.{kept_state, IsKeptAt}
use Rattle.node_check.specs.Verdict.{PassesOnNode}

-- the state after outcomes in a row from s
abbrev pub state_behind : State → List Outcome → State
state_behind s [] = s
state_behind s (o ∷ os) = state_behind o.after os

-- p reported the first events of its stream, as many as the count
pub record IsMatchedOnNode (streams : List Stream) (acts : List NodeAct) (os : List Outcome)
    (p : Pid) (count : ℕ) : Type 0 where
  pub first : node_stream acts os p ≡ take count (events_of streams p)
  pub within : count ≤ length (events_of streams p)

-- the acts pass and lead to the state s, and each process reported as many events as its count
pub record IsPassedOnNode (streams : List Stream) (acts : List NodeAct) (s : State)
    (counts : List ℕ) : Type 0 where
  pub outcomes : List Outcome
  pub runs : node_run (pids_of streams) acts ≡ Some outcomes
  pub is_state : s ≡ state_behind (zero_state (pids_of streams)) outcomes
  pub counts_len : length counts ≡ length (pids_of streams)
  pub matched : (k : ℕ) (p : Pid) → slice_get (pids_of streams) k ≡ Some p
      → IsMatchedOnNode streams acts outcomes p (slice_index counts k)

-- the acts passed, and the tables are theirs
pub record HasPassedOnNode (streams : List Stream) (acts : List NodeAct)
    (kept : Progress) : Type 0 where
  pub rising : IsRising (pids_of streams)
  pub passed : IsPassedOnNode streams acts (kept_state (pids_of streams) kept.processes)
      kept.counts.items
  pub processes : IsKeptAt (pids_of streams) (length acts) kept.processes

-- the report, if there is one, is the event at the index
abbrev pub IsNextEvent : List Event → ℕ → Option Event → Type 0
IsNextEvent events index None = Unit {0}
IsNextEvent events index (Some e) = slice_get events index ≡ Some e

-- the counts after an act of the process at the place: one more for it if it reported an event
abbrev pub counts_after : List ℕ → ℕ → Option Event → List ℕ
counts_after counts place None = counts
counts_after counts place (Some e) = slice_set counts place (slice_index counts place + 1)

-- the reason of a stop: memory ran out, or the act has no step
abbrev pub stop_by : StepFault → Stop
stop_by fault.Memory = stop.Memory
stop_by fault.Unknown = stop.Stuck

-- the acts stop at the last one for the reason
abbrev pub IsStopOnNode : List Stream → List NodeAct → Stop → Type 0
IsStopOnNode streams acts stop.Memory = Unit {0}
IsStopOnNode streams acts stop.Stuck = node_run (pids_of streams) acts ≡ None
IsStopOnNode streams acts stop.Differs =
    IsSome (node_run (pids_of streams) acts) × ¬ PassesOnNode streams acts

-- each of the first n processes reported all its events
abbrev pub NoneIsLeftBefore : List Stream → List ℕ → ℕ → Type 0
NoneIsLeftBefore streams counts n =
    (k : ℕ) (p : Pid) → k < n → slice_get (pids_of streams) k ≡ Some p
    → length (events_of streams p) ≤ slice_index counts k

-- p is the first process that has events left
pub record IsLeftAt (streams : List Stream) (counts : List ℕ) (p : Pid) : Type 0 where
  pub place : ℕ
  pub is_there : slice_get (pids_of streams) place ≡ Some p
  pub left : slice_index counts place < length (events_of streams p)
  pub before : NoneIsLeftBefore streams counts place
