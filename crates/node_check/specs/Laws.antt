-- When acts have a run, so that none is stuck.
use Rattle.std.specs.Prelude.{◌≡◌, ◌&&◌, Bool, true, List, IsSome}
use Rattle.std.specs.List.{list_all}
use Rattle.st_core.specs.declared.types.Pid.{Pid}
use Rattle.st_core.specs.Step.{receiver}
use Rattle.st_core.specs.Streams.{is_among}
use Rattle.node_machine.specs.Node.{NodeAct, machine_act, node_actor, node_run}

-- whether the actor and a send's receiver are among the pids
abbrev pub node_acts_among : List Pid → NodeAct → Bool
node_acts_among pids a =
    is_among pids (node_actor a) && is_among pids (receiver (machine_act a))

-- acts of listed pids have a run: a node's clock is never full
abbrev pub ListedActsRun : Type 0
ListedActsRun =
    (pids : List Pid) (acts : List NodeAct) → list_all (node_acts_among pids) acts ≡ true
    → IsSome (node_run pids acts)
