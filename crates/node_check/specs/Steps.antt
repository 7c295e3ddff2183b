-- A step of the node without the reply, which no check needs.
use Rattle.std.specs.Prelude.{◌≡◌, List, Option, Some}
use Rattle.st_core.specs.declared.types.Event.{Event}
use Rattle.st_core.specs.declared.types.Message.{Message}
use Rattle.st_core.specs.State.{LocalState, Process, State}
use Rattle.st_core.specs.Step.{Outcome}
use Rattle.node_machine.specs.Node.{NodeAct, node_acted, node_step}

-- the actor's part of the act leaves the local state and the queue, and has the report
pub record IsNodePart (r : Process) (a : NodeAct) (local : LocalState) (queue : List Message)
    (report : Option Event) : Type 0 where
  pub is_local : (node_acted r a).local ≡ local
  pub is_queue : (node_acted r a).queue ≡ queue
  pub is_report : (node_acted r a).report ≡ report

-- the act has a step from the old state to the new, with the report
pub record IsStepOnNode (old : State) (a : NodeAct) (report : Option Event) (new : State) : Type 0
  where
    pub outcome : Outcome
    pub steps : node_step old a ≡ Some outcome
    pub is_report : outcome.report ≡ report
    pub is_after : outcome.after ≡ new
