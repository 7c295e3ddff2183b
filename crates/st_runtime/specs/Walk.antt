-- One walk over the acts by rank finds that each log has exactly the acts that touch its process.
-- A cursor in each log passes each act that touches the process.
use Rattle.std.specs.Prelude.{◌≡◌, ℕ, ◌<◌, true, MatchBool, List, [], ◌∷◌, ◌++◌, length, map}
use Rattle.std.specs.Prelude.{filter}
use Rattle.std.specs.Prelude.{All, AllPairs, drop, slice_index_or, slice_set, ◌⊎◌}
use Rattle.st_core.specs.declared.types.Pid.{Pid}
use Rattle.st_core.specs.Pid.{node_of, IsBelow}
use Rattle.st_core.specs.Step.{touches}
use Rattle.st_log.specs.declared.entry.Entry.{Entry}
use Rattle.st_runtime.specs.Joined.{IsBefore}
use Rattle.st_runtime.specs.Pcb.{Control}
use Rattle.st_runtime.specs.Pieces.{pids_in}
use Rattle.st_runtime.specs.System.{knows}

-- the entries that touch p, in order
abbrev pub touching : Pid → List Entry → List Entry
touching p es = filter (λ e. touches e.act p) es

-- The entries are in order, the processes that their acts need are there, and each log has exactly
-- the entries that touch its process.
pub record IsWalk (xs : List Control) (es : List Entry) : Type 0 where
  pub ordered : AllPairs IsBefore es
  pub known : All (λ e. knows (pids_in xs) e.act ≡ true) es
  pub logs : All (λ x. x.log ≡ touching x.process.pid es) xs

-- ---- order

-- one rank with its actor comes before another
abbrev pub IsKeyBefore : ℕ → Pid → ℕ → Pid → Type 0
IsKeyBefore m p n q = (m < n) ⊎ ((m ≡ n) × IsBelow p q)

-- the pids before a place are on lower nodes
abbrev pub AreLower : ℕ → List Pid → ℕ → Type 0
AreLower node ps first = (i : ℕ) → i < first → (p : Pid) → node_of (slice_index_or ps i p) < node

-- ---- cursors

-- a cursor in the log of a process: the entries that it passed, and those that are left
pub record Along : Type 0 where
  pub pid : Pid
  pub passed : List Entry
  pub left : List Entry

-- a cursor at the beginning of x's log
abbrev pub start : Control → Along
start x = record { pid = x.process.pid; passed = []; left = x.log }

-- the pids of the cursors' processes
abbrev pub pids_along : List Along → List Pid
pids_along cs = map (λ c. c.pid) cs

-- the entry is next at the cursor at place i
abbrev pub IsNextAt : Entry → ℕ → List Along → Type 0
IsNextAt e i cs = (d : Along) → i < length cs
    → (slice_index_or cs i d).left ≡ e ∷ drop 1 (slice_index_or cs i d).left

-- the cursor passes the entry, which was next
pub record MovesPast (e : Entry) (before after : Along) : Type 0 where
  pub pid : after.pid ≡ before.pid
  pub passed : after.passed ≡ before.passed ++ e ∷ []
  pub left : before.left ≡ e ∷ after.left

-- the cursor at place i passes the entry, and all others stay
pub record MovesPastAt (e : Entry) (i : ℕ) (before after : List Along) : Type 0 where
  pub cursor : Along
  pub passes : MovesPast e (slice_index_or before i cursor) cursor
  pub written : after ≡ slice_set before i cursor

-- the cursor passes the entry if the act touches its process, else it stays
abbrev pub MovesPastIfTouched : Entry → Along → Along → Type 0
MovesPastIfTouched e before after =
    MatchBool (touches e.act before.pid) (MovesPast e before after) (after ≡ before)

-- each cursor passes the entry if the act touches its process, else it stays
pub record AreStepped (e : Entry) (before after : List Along) : Type 0 where
  pub even : length after ≡ length before
  pub each : (i : ℕ) → i < length before → (d : Along)
      → MovesPastIfTouched e (slice_index_or before i d) (slice_index_or after i d)
