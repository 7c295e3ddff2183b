-- For the parts alone: processes that streams don't list.
use Rattle.std.specs.Prelude.{◌≡◌, ◌==◌, ◌+◌, ◌-◌, ◌%◌, ◌^◌, false, List, All, if◌then◌else◌}
use Rattle.st_core.specs.declared.types.Pid.{Pid}
use Rattle.st_core.specs.Pid.{node_of, number_of, pid_on}
use Rattle.st_core.specs.Run.{Stream}
use Rattle.st_core.specs.Streams.{lists}

-- the pid that is tried after p: numbers fall on a node, then comes the next node, and node 0
-- after the last
abbrev pub pid_after : Pid → Pid
pid_after p =
    if number_of p == 0 then pid_on ((node_of p + 1) % 2 ^ 16) (2 ^ 16 - 1)
    else pid_on (node_of p) (number_of p - 1)

-- the streams list none of the pids
abbrev pub AreUnlisted : List Stream → List Pid → Type 0
AreUnlisted streams ps = All (λ p. lists streams p ≡ false) ps
