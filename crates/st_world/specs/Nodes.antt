-- The processes of a world by node, each known by its number: which processes are on one node,
-- which nodes are traced, and which processes a reset of their node may change.
use Rattle.std.specs.Prelude.{◌≡◌, ℕ, ◌<◌, ◌≤◌, ◌==◌, ◌⊎◌, Bool, false, if◌then◌else◌, List, []}
use Rattle.std.specs.Prelude.{◌∷◌, length, map, slice_index_or}
use Rattle.st_core.specs.declared.types.Pid.{Pid}
use Rattle.st_core.specs.declared.types.Message.{Message}
use Rattle.st_core.specs.Local.{wiped}
use Rattle.st_core.specs.Pid.{node_of}
use Rattle.st_core.specs.State.{LocalState, zero_local}
use Rattle.st_core.specs.Step.{untraced}
use Rattle.st_world.specs.declared.node.Node.{Node}

-- the place of each process's node among the nodes, the nodes, and the lists of touched processes:
-- the list of a node is in the slots from its start on
pub record Groups : Type 0 where
  pub places : List ℕ
  pub nodes : List Node
  pub slots : List ℕ

-- a node without processes
abbrev pub no_node : Node
no_node = record { start = 0; end = 0; listed = 0; traced = false }

-- the node of process i
abbrev pub node_at : Groups → ℕ → Node
node_at g i = slice_index_or g.nodes (slice_index_or g.places i 0) no_node

-- TRACING

-- whether each node is traced
abbrev pub tracers : Groups → List Bool
tracers g = map (λ (n : Node). n.traced) g.nodes

-- whether the node of process i is traced
abbrev pub traced_at : Groups → ℕ → Bool
traced_at g i = slice_index_or (tracers g) (slice_index_or g.places i 0) false

-- whether the node of each process is traced, in the order of the processes
abbrev pub are_traced : Groups → List Bool
are_traced g = map (λ k. slice_index_or (tracers g) k false) g.places

-- the tracing states with the given marks `traced`
abbrev pub flagged : List Bool → List LocalState → List LocalState
flagged [] ls = []
flagged (b ∷ bs) [] = []
flagged (b ∷ bs) (l ∷ ls) = record l { traced = b } ∷ flagged bs ls

-- LISTS

-- the process that a slot of the node's list stands for: in a full list the process with the
-- slot's number, and in any other the one that the slot names
abbrev pub process_in : List ℕ → Node → ℕ → ℕ
process_in slots n slot = if n.listed == n.end then slot else slice_index_or slots slot 0

-- process i is in the node's list, in slot `first` or later
pub record IsListedFrom (first : ℕ) (slots : List ℕ) (n : Node) (i : ℕ) : Type 0 where
  pub slot : ℕ
  pub from : first ≤ slot
  pub below : slot < n.listed
  pub is : process_in slots n slot ≡ i

-- process i is in the list of its node
abbrev pub IsListed : Groups → ℕ → Type 0
IsListed g i = IsListedFrom (node_at g i).start g.slots (node_at g i) i

-- a wipe leaves process i and its queue as they are
pub record IsClean (ls : List LocalState) (queues : List (List Message)) (i : ℕ) : Type 0 where
  pub local : wiped (slice_index_or ls i zero_local) ≡ slice_index_or ls i zero_local
  pub queue : map untraced (slice_index_or queues i []) ≡ slice_index_or queues i []

-- process i is clean or in the list of its node
abbrev pub IsCleanOrListed : Groups → List LocalState → List (List Message) → ℕ → Type 0
IsCleanOrListed g ls queues i = IsClean ls queues i ⊎ IsListed g i

-- WHAT HOLDS OF EACH WORLD

-- process i has a place among the nodes; the range of its node includes it and has only processes
-- of the node; and the node's list is in that range
pub record IsPlaced (g : Groups) (i : ℕ) : Type 0 where
  pub place : slice_index_or g.places i 0 < length g.nodes
  pub start : (node_at g i).start ≤ i
  pub end : i < (node_at g i).end
  pub within : (node_at g i).end ≤ length g.places
  pub same : (j : ℕ) → (node_at g i).start ≤ j → j < (node_at g i).end
      → slice_index_or g.places j 0 ≡ slice_index_or g.places i 0
  pub from : (node_at g i).start ≤ (node_at g i).listed
  pub listed : (node_at g i).listed ≤ (node_at g i).end

-- the slot names a process on the node of the slot's own process
pub record IsSlot (g : Groups) (slot : ℕ) : Type 0 where
  pub within : slice_index_or g.slots slot 0 < length g.places
  pub same : slice_index_or g.places (slice_index_or g.slots slot 0) 0
      ≡ slice_index_or g.places slot 0

-- each process is on a node, and has a slot
pub record AreGroups (g : Groups) : Type 0 where
  pub len : length g.slots ≡ length g.places
  pub placed : (i : ℕ) → i < length g.places → IsPlaced g i
  pub slots : (slot : ℕ) → slot < length g.places → IsSlot g slot

-- two processes have one place if and only if their pids are of one node
pub record AreByNode (pids : List Pid) (places : List ℕ) : Type 0 where
  pub len : length places ≡ length pids
  pub same : (i j : ℕ) (d : Pid) → i < length pids → j < length pids
      → node_of (slice_index_or pids i d) ≡ node_of (slice_index_or pids j d)
      → slice_index_or places i 0 ≡ slice_index_or places j 0
  pub apart : (i j : ℕ) (d : Pid) → i < length pids → j < length pids
      → slice_index_or places i 0 ≡ slice_index_or places j 0
      → node_of (slice_index_or pids i d) ≡ node_of (slice_index_or pids j d)
