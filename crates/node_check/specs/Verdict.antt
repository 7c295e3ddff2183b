-- The verdict about acts and streams: whether the acts are a run of a standard node in which each
-- process reports exactly its stream.
use Rattle.std.specs.Prelude.{◌≡◌, ◌+◌, ◌<◌, nat_lt, List, length, map, take, find, Option, Some}
use Rattle.std.specs.Prelude.{None, IsSome, All}
use mathlib.Core.List.{IsPrefix}
use Rattle.st_core.specs.declared.types.Act.{Act}
use Rattle.st_core.specs.Step.{Outcome}
use Rattle.st_core.specs.Run.{Stream, pids_of}
use Rattle.node_machine.specs.Node.{Common, NodeAct, node_run}
use Rattle.node_streams.specs.Runs.{node_stream}
use Rattle.node_check.specs.declared.verdict.NodeVerdict.{NodeVerdict}
use Rattle.node_check.specs.declared.verdict.NodeVerdict.TheVariants as verdict

-- acts of the machine of the manual, as acts of the node
abbrev pub in_common : List Act → List NodeAct
in_common acts = map Common acts

-- the acts have a run over the streams' pids, and each listed process reports exactly its stream
abbrev pub ShowsOnNode : List Stream → List NodeAct → Type 0
ShowsOnNode streams acts =
    (os : List Outcome) × (node_run (pids_of streams) acts ≡ Some os)
    × All (λ x. node_stream acts os x.pid ≡ x.events) streams

-- os is the run of the acts, and each process reported a front of its stream in it
pub record IsPassingOnNode (streams : List Stream) (acts : List NodeAct)
    (os : List Outcome) : Type 0 where
  pub runs : node_run (pids_of streams) acts ≡ Some os
  pub fronts : All (λ x. IsPrefix (node_stream acts os x.pid) x.events) streams

-- the acts have a run in which each process reports a front of its stream
abbrev pub PassesOnNode : List Stream → List NodeAct → Type 0
PassesOnNode streams acts = (os : List Outcome) × IsPassingOnNode streams acts os

-- the first stream of which the run left events: the least, since the pids of streams rise
abbrev pub left_on_node : List Stream → List NodeAct → List Outcome → Option Stream
left_on_node streams acts os =
    find (λ x. nat_lt (length (node_stream acts os x.pid)) (length x.events)) streams

-- the verdict is true of the acts. Stuck n, Differs n: the acts before act n pass, and act n has
-- no step, or has one and reports something else than the next event of its actor's stream. Left
-- p: all acts pass, and p is the first process with events left. Yes: the acts show the streams
abbrev pub IsNodeVerdict : List Stream → List NodeAct → NodeVerdict → Type 0
IsNodeVerdict streams acts (verdict.Stuck n) =
    (n < length acts)
    × PassesOnNode streams (take n acts)
    × (node_run (pids_of streams) (take (n + 1) acts) ≡ None)
IsNodeVerdict streams acts (verdict.Differs n) =
    (n < length acts)
    × PassesOnNode streams (take n acts)
    × IsSome (node_run (pids_of streams) (take (n + 1) acts))
    × ¬ PassesOnNode streams (take (n + 1) acts)
IsNodeVerdict streams acts (verdict.Left p) =
    (os : List Outcome) × IsPassingOnNode streams acts os
    × (x : Stream) × (left_on_node streams acts os ≡ Some x)
    × (x.pid ≡ p)
IsNodeVerdict streams acts verdict.Yes = ShowsOnNode streams acts

-- a no: the acts don't show the streams
abbrev pub RefutesOnNo : List Stream → List NodeAct → NodeVerdict → Type 0
RefutesOnNo streams acts verdict.Yes = Unit {0}
RefutesOnNo streams acts v = ¬ ShowsOnNode streams acts
