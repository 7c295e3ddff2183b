-- Runs in which each token that reaches a listed process was sent by a listed one, which reported
-- the send. Other sends, prints and receives may go unreported, and put-backs and resets are free.
use Rattle.std.specs.Prelude.{◌≡◌, true, List, [], ◌∷◌, map, Option, Some, None, if◌then◌else◌}
use Rattle.std.specs.Prelude.{is_some, IsSome}
use Rattle.std.specs.List.{AllByRecursion}
use Rattle.st_core.specs.declared.types.Pid.{Pid}
use Rattle.st_core.specs.declared.types.Event.{Event}
use Rattle.st_core.specs.declared.types.Act.{Act}
use Rattle.st_core.specs.declared.types.Act.TheVariants as act
use Rattle.st_core.specs.State.{Process, State, process, zero_state}
use Rattle.st_core.specs.Step.{Outcome}
use Rattle.st_core.specs.Run.{Stream, stream}
use Rattle.st_core.specs.Streams.{lists}
use Rattle.node_machine.specs.Node.{machine_act, NodeAct, node_actor, node_run}

-- the events that p reports in a run, in order
abbrev pub node_stream : List NodeAct → List Outcome → Pid → List Event
node_stream acts os p = stream (map machine_act acts) os p

-- the process to which an act sends its actor's token, if it sends it
abbrev pub token_receiver : Process → Act → Option Pid
token_receiver r (act.Send p q v) = if is_some r.local.token then Some q else None
token_receiver r a = None

-- in a run from s each send of a token to a listed process is by a listed one, and is reported
abbrev pub ReportSends : List Stream → State → List NodeAct → List Outcome → Type 0
ReportSends streams s [] os = Unit {0}
ReportSends streams s (a ∷ rest) [] = Unit {0}
ReportSends streams s (a ∷ rest) (o ∷ os) =
    ((r : Process) → process s (node_actor a) ≡ Some r
    → (q : Pid) → token_receiver r (machine_act a) ≡ Some q → lists streams q ≡ true
    → (lists streams (node_actor a) ≡ true) × IsSome o.report)
    × ReportSends streams o.after rest os

-- the streams are what their processes report
abbrev pub AreReported : List Stream → List NodeAct → List Outcome → Type 0
AreReported streams acts os = AllByRecursion (λ x. node_stream acts os x.pid ≡ x.events) streams

-- the acts have a run over the pids that has the streams, and in which sends are reported as
-- `ReportSends` says
pub record AreStreamsOf (streams : List Stream) (pids : List Pid) (acts : List NodeAct)
    (os : List Outcome) : Type 0 where
  pub runs : node_run pids acts ≡ Some os
  pub sends : ReportSends streams (zero_state pids) acts os
  pub reported : AreReported streams acts os
