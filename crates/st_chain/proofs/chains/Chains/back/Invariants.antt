-- The places so far lead from the event back to the place that comes next, and `far` falls with
-- each step.
use Rattle.std.proofs.Common.{ℕ, ◌++◌, List}
use Rattle.st_core.specs.declared.types.Pid.{Pid}
use Rattle.st_chain.specs.Causes.{place_at, far, IsBackFrom}
use Rattle.st_chain.proofs.chains.Chains.back.Given as goal

-- the way back from the next place completes the list
abbrev pub invariant-loop-at : goal.invariant-loop-at
invariant-loop-at l = (rest : List (Pid × ℕ)) → IsBackFrom l.self l.at rest
    → IsBackFrom l.self (place_at l.self l.fn.pid l.fn.index) (l.list.items ++ rest)

abbrev pub decreases-loop-at : goal.decreases-loop-at
decreases-loop-at l = far l.self l.at
