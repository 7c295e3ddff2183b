-- The meaning of the checker's and the replay's results.
use Rattle.std.specs.Prelude.{◌≡◌, ℕ, ◌+◌, ◌<◌, List, length, map, take, Some, None, IsSome, All}
use Rattle.st_core.specs.declared.types.Pid.{Pid}
use Rattle.st_core.specs.declared.types.Act.{Act}
use Rattle.st_core.specs.declared.types.Reply.{Reply}
use Rattle.st_core.specs.Pid.{IsRising}
use Rattle.st_core.specs.Step.{Outcome}
use Rattle.st_core.specs.Run.{Stream, pids_of, run, stream}
use Rattle.st_core.specs.Pairs.{Follows, AllPaired}
use Rattle.st_core.specs.Verdict as verdicts
use Rattle.st_check.specs.declared.verdict.Verdict.{Verdict}
use Rattle.st_check.specs.declared.verdict.Verdict.TheVariants as told
use Rattle.st_check.specs.declared.verdict.Replayed.{Replayed}
use Rattle.st_check.specs.declared.verdict.Replayed.TheVariants as replayed
use Rattle.st_check.specs.declared.verdict.Reports.{Reports}
use Rattle.st_check.specs.declared.verdict.Reports.TheVariants as reports
use Rattle.st_check.specs.declared.verdict.ReplayFault.{ReplayFault}
use Rattle.st_check.specs.declared.verdict.ReplayFault.TheVariants as fault

-- the checker's verdict in the terms of the definition
abbrev pub verdict_of : Verdict → verdicts.Verdict
verdict_of (told.Stuck n) = verdicts.Stuck n
verdict_of (told.Differs n) = verdicts.Differs n
verdict_of (told.Left p) = verdicts.Left p
verdict_of (told.Yes ps) = verdicts.Yes ps

-- on a yes, in the run of the acts each pair's receive follows its send, and no send occurs twice
abbrev pub FollowsAll : ℕ → List Stream → List Act → verdicts.Verdict → Type 0
FollowsAll top streams acts (verdicts.Yes ps) =
    (os : List Outcome) → run top (pids_of streams) acts ≡ Some os → Follows acts os ps
FollowsAll top streams acts v = Unit {0}

-- on a yes, each reported receive of the run is in a pair
abbrev pub PairsAll : ℕ → List Stream → List Act → verdicts.Verdict → Type 0
PairsAll top streams acts (verdicts.Yes ps) =
    (os : List Outcome) → run top (pids_of streams) acts ≡ Some os → AllPaired os ps
PairsAll top streams acts v = Unit {0}

-- in each event of the streams prev is less than this
abbrev pub AllRise : List Stream → Type 0
AllRise streams = All (λ x. All (λ e. e.serial.prev < e.serial.this) x.events) streams

-- on a yes, prev is less than this in each event of the streams
abbrev pub RisesOnYes : List Stream → verdicts.Verdict → Type 0
RisesOnYes streams (verdicts.Yes ps) = AllRise streams
RisesOnYes streams v = Unit {0}

-- the stream of each process: the events that it reported in the run of the acts
abbrev pub reported_streams : List Pid → List Act → List Outcome → List Stream
reported_streams pids acts os = map (λ p. record { pid = p; events = stream acts os p }) pids

-- the acts have a run over these pids, and these are its streams and its replies
pub record RunsWith (top : ℕ) (pids : List Pid) (acts : List Act) (streams : List Stream)
    (replies : List Reply) : Type 0 where
  pub outcomes : List Outcome
  pub runs : run top pids acts ≡ Some outcomes
  pub are_streams : streams ≡ reported_streams pids acts outcomes
  pub are_replies : replies ≡ map (λ o. o.reply) outcomes

-- the acts have a run over these pids, and these are its streams
pub record RunReports (top : ℕ) (pids : List Pid) (acts : List Act) (streams : List Stream) : Type 0
  where
    pub outcomes : List Outcome
    pub runs : run top pids acts ≡ Some outcomes
    pub are_streams : streams ≡ reported_streams pids acts outcomes

-- act n is the first that has no step
pub record SticksAt (top : ℕ) (pids : List Pid) (acts : List Act) (n : ℕ) : Type 0 where
  pub within : n < length acts
  pub before : IsSome (run top pids (take n acts))
  pub none : run top pids (take (n + 1) acts) ≡ None

-- a replay returns the streams and replies of the run, or the first act that has no step
abbrev pub IsReplay : ℕ → List Pid → List Act → Replayed → Type 0
IsReplay top pids acts (replayed.Ran streams replies) = RunsWith top pids acts streams replies
IsReplay top pids acts (replayed.Stuck n) = SticksAt top pids acts n

-- a replay without replies returns the streams of the run, or the first act that has no step
abbrev pub AreReports : ℕ → List Pid → List Act → Reports → Type 0
AreReports top pids acts (reports.Ran streams) = RunReports top pids acts streams
AreReports top pids acts (reports.Stuck n) = SticksAt top pids acts n

-- why there is no replay: the pids don't rise, or they do and memory ran out
abbrev pub IsReplayFault : List Pid → ReplayFault → Type 0
IsReplayFault pids fault.Memory = IsRising pids
IsReplayFault pids fault.NotRising = ¬ IsRising pids

-- if there is a run, prev is less than this in each event of its streams
abbrev pub RisesOnRun : Replayed → Type 0
RisesOnRun (replayed.Ran streams replies) = AllRise streams
RisesOnRun (replayed.Stuck n) = Unit {0}

abbrev pub ReportsRise : Reports → Type 0
ReportsRise (reports.Ran streams) = AllRise streams
ReportsRise (reports.Stuck n) = Unit {0}
