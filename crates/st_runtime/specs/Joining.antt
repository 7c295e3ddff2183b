-- The steps of joining: finding an entry, finding the least pid that isn't seated, and reading
-- acts, replies and streams out of the logs.
use Rattle.std.specs.Prelude.{◌≡◌, ℕ, ◌<◌, Bool, MatchBool, List, [], length, map, Option, Some}
use Rattle.std.specs.Prelude.{None}
use Rattle.std.specs.Prelude.{if◌then◌else◌, slice_index_or, All, Contains, IfSome}
use Rattle.std.specs.Borrow.{Bor}
use Rattle.std.specs.Ordering.{is_lt}
use Rattle.st_core.specs.declared.types.Pid.{Pid}
use Rattle.st_core.specs.declared.types.Act.{Act}
use Rattle.st_core.specs.declared.types.Event.{Event}
use Rattle.st_core.specs.Pid.{pid_cmp, pid_eq, IsBelow, IsRising}
use Rattle.st_core.specs.Step.{actor}
use Rattle.st_log.specs.declared.entry.Entry.{Entry}
use Rattle.st_log.specs.Entries.{Logged, entry_at}
use Rattle.st_runtime.specs.declared.join.record.Record.{Record}
use Rattle.st_runtime.specs.Driven.{acts_by}
use Rattle.st_runtime.specs.Joined.{IsMerged, IsOneRun, streams_of}
use Rattle.st_runtime.specs.Pcb.{Control, IsFromLog}
use Rattle.st_runtime.specs.Pieces.{pids_in, AreWhole, Parts, IsSeated}

-- there is a process with pid p that has the entry
pub record HasAt (xs : List Control) (p : Pid) (e : Entry) : Type 0 where
  pub control : Control
  pub among : Contains xs control
  pub pid : control.process.pid ≡ p
  pub has : Contains control.log e

-- the pids rise, and there is a process with pid p that has the entry
pub record IsInLogOf (xs : List Control) (p : Pid) (e : Entry) : Type 0 where
  pub rising : IsRising (pids_in xs)
  pub here : HasAt xs p e

-- b says whether the statement holds
abbrev pub IsWhether : Bool → Type 0 → Type 0
IsWhether b Holds = MatchBool b Holds (¬ Holds)

-- the least pid, if there is one, isn't seated, and each pid of the items that is below it is; if
-- there is none, all are
pub record IsLeastUnseated {X : Type 0} (pid_of : X → Pid) (pieces : Parts) (xs : List X)
    (least : Option Pid)
    : Type 0 where
  pub unseated : IfSome least (λ p. ¬ IsSeated pieces p)
  pub before : All (λ x. IfSome least (IsBelow (pid_of x)) → IsSeated pieces (pid_of x)) xs

-- the lesser of two pids, or the only one
abbrev pub lesser : Option Pid → Pid → Option Pid
lesser None p = Some p
lesser (Some q) p = if is_lt (pid_cmp p q) then Some p else Some q

-- the record is that of the logs' merged entries, which are one run
pub record IsLogged (top : ℕ) (xs : List Control) (r : Record) : Type 0 where
  pub entries : List Entry
  pub merged : IsMerged xs entries
  pub run : IsOneRun top xs entries
  pub streams : r.streams ≡ streams_of xs
  pub acts : r.acts ≡ map (λ e. e.act) entries
  pub replies : r.replies ≡ map (λ e. e.reply) entries

-- the entry that is referred to by its log and its place there
abbrev pub referred : Bor Logged × ℕ → Entry
referred r = entry_at r.0.now.entries r.1

-- the log has an entry at the place
abbrev pub IsThere : Bor Logged × ℕ → Type 0
IsThere r = r.1 < length r.0.now.entries

-- the report of an entry, if the entry is p's own and has one
abbrev pub report_at : Pid → Entry → Option Event
report_at p e = if pid_eq (actor e.act) p then e.report else None

-- in each of the first n scripts all acts were made
abbrev pub AreEnded : List ℕ → List (List Act) → ℕ → Type 0
AreEnded made scripts n = (i : ℕ) → i < n
    → slice_index_or made i 0 ≡ length (slice_index_or scripts i [])

-- the record is that of whole logs from locks, and in it each process made its script
pub record IsScripted (top ranks : ℕ) (xs : List Control) (scripts : List (List Act)) (r : Record)
    : Type 0 where
  pub whole : AreWhole xs
  pub kept : All (λ x. IsFromLog top ranks x.process x.log) xs
  pub logged : IsLogged top xs r
  pub made : map (λ p. acts_by p r.acts) (pids_in xs) ≡ scripts
