-- When acts have a run, so that none of them is stuck.
use Rattle.std.specs.Prelude.{◌≡◌, ℕ, ◌≤◌, ◌&&◌, Bool, true, List, length, IsSome}
use Rattle.std.specs.List.{list_all}
use Rattle.st_core.specs.declared.types.Pid.{Pid}
use Rattle.st_core.specs.declared.types.Act.{Act}
use Rattle.st_core.specs.Streams.{is_among}
use Rattle.st_core.specs.Step.{actor, receiver}
use Rattle.st_core.specs.Run.{run}

-- the act's actor, and a send's receiver, are among these pids
abbrev pub acts_among : List Pid → Act → Bool
acts_among pids a = is_among pids (actor a) && is_among pids (receiver a)

-- at most TOP acts of these processes have a run, since no clock is above the number of acts
abbrev pub FewActsRun : Type 0
FewActsRun =
    (top : ℕ) (pids : List Pid) (acts : List Act) → length acts ≤ top
    → list_all (acts_among pids) acts ≡ true
    → IsSome (run top pids acts)
