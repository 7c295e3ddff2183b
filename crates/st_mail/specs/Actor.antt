-- The actor's part of an act, in terms of the actor's tracing state and queue.
use Rattle.std.specs.Prelude.{◌≡◌, ℕ, Bool, true, false, List, Some, None, All}
use Rattle.st_core.specs.declared.types.Pid.{Pid}
use Rattle.st_core.specs.declared.types.Message.{Message}
use Rattle.st_core.specs.declared.types.Act.{Act}
use Rattle.st_core.specs.declared.types.Act.TheVariants as act
use Rattle.st_core.specs.Local.{IsMeetable}
use Rattle.st_core.specs.State.{LocalState, Process}
use Rattle.st_core.specs.Step.{Acted, acted}
use Rattle.st_mail.specs.declared.outcome.Outcome.{Outcome as Told}

-- the process with the pid p, the tracing state l and the queue
abbrev pub process_of : Pid → LocalState → List Message → Process
process_of p l queue = record { pid = p; local = l; queue = queue }

-- the process can meet each token in the queue
abbrev pub QueueFits : ℕ → List Message → Type 0
QueueFits top queue = All (λ m. IsMeetable top m.token) queue

-- the act touches only its actor, and no queue
abbrev pub is_inner : Act → Bool
is_inner (act.Send p q v) = false
is_inner (act.Receive p w) = false
is_inner (act.Reset p) = false
is_inner (act.Tracer p b) = false
is_inner a = true

-- the act is a send, which needs memory for its message
abbrev pub is_send_act : Act → Bool
is_send_act (act.Send p q v) = true
is_send_act a = false

-- the actor's part of an act that returns `told` and leaves the tracing state l and the queue
abbrev pub part_of : Told → LocalState → List Message → Acted
part_of told l queue = record {
  local = l;
  queue = queue;
  reply = told.reply;
  report = told.report;
  place = told.place;
}

-- whatever the queue of p, the act returns `told`, takes the tracing state of p from `old` to
-- `new` and leaves its queue
abbrev pub ActsOutside : ℕ → Act → Pid → LocalState → LocalState → Told → Type 0
ActsOutside top a p old new told =
    (queue : List Message) → acted top (process_of p old queue) a ≡ Some (part_of told new queue)

-- whatever the queue of p, the act can't be made
abbrev pub HasNoPart : ℕ → Act → Pid → LocalState → Type 0
HasNoPart top a p l = (queue : List Message) → acted top (process_of p l queue) a ≡ None
