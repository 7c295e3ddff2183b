-- Runs in which a process's tokens, and the labels that it gives them, are its own.
use Rattle.std.specs.Prelude.{List, [], false}
use Rattle.st_core.specs.declared.types.Pid.{Pid}
use Rattle.st_core.specs.State.{zero_state}
use Rattle.st_core.specs.Step.{Outcome}
use Rattle.node_machine.specs.declared.types.Seen.{Seen}
use Rattle.node_machine.specs.Node.{NodeAct}
use Rattle.node_machine.specs.Origins.{AnswersComeNext, Home, OriginsAre, TokenOrigin}
use Rattle.node_given.specs.Runs.{AreEventsOf}

-- es are the events of p in a run, hs the origins of its tokens, which are its own, and each
-- answer comes right after its request
pub record HaveOrigins (p : Pid) (es : List Seen) (pids : List Pid) (acts : List NodeAct)
    (os : List Outcome) (hs : List TokenOrigin) : Type 0 where
  pub events : AreEventsOf p es pids acts os
  pub origins : OriginsAre p [] [] Home (zero_state pids) acts os hs
  pub answers : AnswersComeNext p false acts os
