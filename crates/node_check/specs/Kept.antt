-- The processes as tables keep them: a row and a queue for each, and a mark for each number that a
-- node can have. A reset writes its node's mark alone: a row that was written before it is stale,
-- and counts as wiped with its queue.
use Rattle.std.specs.Prelude.{◌≡◌, ℕ, ◌+◌, ◌≤◌, ◌^◌, nat_lt, Bool, false, List, [], ◌∷◌, length}
use Rattle.std.specs.Prelude.{map, if◌then◌else◌, slice_index_or, Option, None}
use Rattle.st_core.specs.declared.types.Event.{Event}
use Rattle.st_core.specs.declared.types.Message.{Message}
use Rattle.st_core.specs.declared.types.Pid.{Pid}
use Rattle.st_core.specs.Local.{wiped}
use Rattle.st_core.specs.State.{LocalState, State, zero_local}
use Rattle.st_core.specs.Step.{untraced}
use Rattle.st_mail.specs.Actor.{process_of}
use Rattle.node_machine.specs.Node.{NodeAct, node_step}
use Rattle.node_check.specs.declared.processes.NodeMark.{NodeMark}
use Rattle.node_check.specs.declared.processes.Processes.{Processes}
use Rattle.node_check.specs.declared.processes.Row.{Row}
use Rattle.node_check.specs.declared.processes.StepFault.{StepFault}
use Rattle.node_check.specs.declared.processes.StepFault.TheVariants as fault
use Rattle.node_check.specs.Steps.{IsStepOnNode}

abbrev pub zero_row : Row
zero_row = record { local = zero_local; written = 0 }

abbrev pub no_mark : NodeMark
no_mark = record { traced = false; reset = 0 }

-- the mark of p's node
abbrev pub node_mark_of : List NodeMark → Pid → NodeMark
node_mark_of marks p = slice_index_or marks p.node no_mark

-- whether the row was written before the last reset of its node
abbrev pub is_stale : NodeMark → Row → Bool
is_stale mark row = nat_lt row.written mark.reset

-- the local state of a process, by its row and its node's mark
abbrev pub local_by : NodeMark → Row → LocalState
local_by mark row =
    record (if is_stale mark row then wiped row.local else row.local) { traced = mark.traced }

-- the queue of a process, by its row and its node's mark
abbrev pub queue_by : NodeMark → Row → List Message → List Message
queue_by mark row queue = if is_stale mark row then map untraced queue else queue

-- the state of the pids, by their rows and queues
abbrev pub processes_of : List NodeMark → List Pid → List Row → List (List Message) → State
processes_of marks (p ∷ ps) (row ∷ rows) (queue ∷ queues) =
    process_of p (local_by (node_mark_of marks p) row) (queue_by (node_mark_of marks p) row queue)
    ∷ processes_of marks ps rows queues
processes_of marks ps rows queues = []

abbrev pub kept_state : List Pid → Processes → State
kept_state pids x = processes_of x.nodes.items pids x.rows.items x.queues.boxes

-- the tables have a row and a queue for each pid, and a mark for each node; and no row or mark is
-- of more acts than the number
pub record IsKeptAt (pids : List Pid) (number : ℕ) (x : Processes) : Type 0 where
  pub rows_len : length x.rows.items ≡ length pids
  pub queues_len : length x.queues.boxes ≡ length pids
  pub nodes_len : length x.nodes.items ≡ 2 ^ 16
  pub written : (i : ℕ) → (slice_index_or x.rows.items i zero_row).written ≤ number
  pub reset : (i : ℕ) → (slice_index_or x.nodes.items i no_mark).reset ≤ number

-- the row of p, at the place, isn't stale
abbrev pub IsFresh : Processes → ℕ → Pid → Type 0
IsFresh x place p =
    is_stale (node_mark_of x.nodes.items p) (slice_index_or x.rows.items place zero_row) ≡ false

-- the row of p at the place was refreshed: the state stays, and the row shows it
pub record IsRefreshed (pids : List Pid) (number place : ℕ) (p : Pid)
    (old new : Processes) : Type 0 where
  pub kept : IsKeptAt pids number new
  pub same : kept_state pids new ≡ kept_state pids old
  pub fresh : IsFresh new place p
  pub traced : (slice_index_or new.rows.items place zero_row).local.traced
      ≡ (node_mark_of new.nodes.items p).traced
  pub others : (j : ℕ) (q : Pid) → IsFresh old j q → IsFresh new j q

-- the act after `number` others was done: it has a step from the old state to the new
pub record IsDone (pids : List Pid) (number : ℕ) (a : NodeAct) (report : Option Event)
    (old new : Processes) : Type 0 where
  pub step : IsStepOnNode (kept_state pids old) a report (kept_state pids new)
  pub kept : IsKeptAt pids (number + 1) new

-- the reason why an act wasn't done: memory ran out, or it has no step
abbrev pub IsUndone : State → NodeAct → StepFault → Type 0
IsUndone s a fault.Memory = Unit {0}
IsUndone s a fault.Unknown = node_step s a ≡ None
