-- Runs whose events the walk is given.
use Rattle.std.specs.Prelude.{◌≡◌, List, Some}
use Rattle.st_core.specs.declared.types.Pid.{Pid}
use Rattle.st_core.specs.State.{zero_state}
use Rattle.st_core.specs.Step.{Outcome}
use Rattle.node_machine.specs.declared.types.Seen.{Seen}
use Rattle.node_machine.specs.Node.{node_run, NodeAct, seen_stream}
use Rattle.node_machine.specs.Premises.{NoNodeReset, ReportsTokens}

-- es are the events of p in a run without a reset in which p reports each stamp and each receive
-- of a token
pub record AreEventsOf (p : Pid) (es : List Seen) (pids : List Pid) (acts : List NodeAct)
    (os : List Outcome) : Type 0 where
  pub runs : node_run pids acts ≡ Some os
  pub no_reset : NoNodeReset acts
  pub reports : ReportsTokens p (zero_state pids) acts os
  pub shown : seen_stream acts os p ≡ es
