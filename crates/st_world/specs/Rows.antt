-- A world's three rows as one state: its pids, tracing states and queues.
use Rattle.std.specs.Prelude.{◌≡◌, ℕ, ◌<◌, ◌≤◌, List, [], ◌∷◌, length, map, slice_index_or, All}
use Rattle.std.specs.Prelude.{None}
use Rattle.st_core.specs.declared.types.Pid.{Pid}
use Rattle.st_core.specs.declared.types.Message.{Message}
use Rattle.st_core.specs.declared.types.Act.TheVariants as act
use Rattle.st_core.specs.Pid.{node_of, IsRising}
use Rattle.st_core.specs.State.{LocalState, State}
use Rattle.st_core.specs.Step.{reached}
use Rattle.st_core.specs.Laws.{IsSound}
use Rattle.st_mail.specs.Actor.{process_of}
use Rattle.st_world.specs.Nodes.{Groups, are_traced, flagged, AreByNode, IsClean, IsCleanOrListed}

-- the processes that the rows make, if they are of one length
abbrev pub state_of : List Pid → List LocalState → List (List Message) → State
state_of (p ∷ ps) (l ∷ ls) (queue ∷ queues) = process_of p l queue ∷ state_of ps ls queues
state_of ps ls queues = []

-- the pids rise, and each has a tracing state and a queue
pub record AreAligned (pids : List Pid) (locals : List LocalState)
    (queues : List (List Message)) : Type 0 where
  pub rising : IsRising pids
  pub locals_len : length locals ≡ length pids
  pub queues_len : length queues ≡ length pids

-- the rows of a world: they are aligned, and each process is sound, as in every run
pub record AreRows (top : ℕ) (pids : List Pid) (locals : List LocalState)
    (queues : List (List Message)) : Type 0 where
  pub aligned : AreAligned pids locals queues
  pub sound : All (IsSound top) (state_of pids locals queues)

-- what a world keeps: rows in which each process has its node's mark `traced`, the places of its
-- pids' nodes, and lists that have each process that a reset of its node would change
pub record AreKept (top : ℕ) (pids : List Pid) (g : Groups) (locals : List LocalState)
    (queues : List (List Message))
    : Type 0 where
  pub rows : AreRows top pids (flagged (are_traced g) locals) queues
  pub locals_len : length locals ≡ length pids
  pub by_node : AreByNode pids g.places
  pub listed : (i : ℕ) → i < length pids → IsCleanOrListed g locals queues i

-- A wipe of the listed processes on the node of process `number` takes the rows to those after it.
-- If each process is clean or listed before, the wipe resets the state. A process of the node that
-- is clean or listed before is clean after, and each clean process stays clean.
pub record AreWiped (g : Groups) (number : ℕ) (locals : List LocalState)
    (queues : List (List Message))
    (locals_after : List LocalState) (queues_after : List (List Message)) : Type 0 where
  pub state : (pids : List Pid) (me : Pid) → AreByNode pids g.places
      → me ≡ slice_index_or pids number me
      → ((i : ℕ) → i < length pids → IsCleanOrListed g locals queues i)
      → state_of pids locals_after queues_after
      ≡ map (reached (act.Reset me) None) (state_of pids locals queues)
  pub node : (i : ℕ) → i < length g.places
      → slice_index_or g.places i 0 ≡ slice_index_or g.places number 0
      → IsCleanOrListed g locals queues i → IsClean locals_after queues_after i
  pub others : (i : ℕ) → IsClean locals queues i → IsClean locals_after queues_after i

-- the processes of the node are those with the numbers from `start` to below `end`
pub record IsNodeRange (node : ℕ) (pids : List Pid) (start end : ℕ) : Type 0 where
  pub ends : start ≤ end
  pub within : end ≤ length pids
  pub before : (i : ℕ) (d : Pid) → i < start → node_of (slice_index_or pids i d) < node
  pub on : (i : ℕ) (d : Pid) → start ≤ i → i < end → node_of (slice_index_or pids i d) ≡ node
  pub after : (i : ℕ) (d : Pid) → end ≤ i → i < length pids
      → node < node_of (slice_index_or pids i d)
