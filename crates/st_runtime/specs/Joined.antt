-- The acts of the threads are one run: merged by rank, the entries of pieces that fit are a run of
-- the machine.
use Rattle.std.specs.Prelude.{◌≡◌, ℕ, ◌<◌, ◌⊎◌, List, [], ◌∷◌, ◌++◌, map, if◌then◌else◌}
use Rattle.std.specs.Prelude.{option_to_list, All, AllPairs, Contains, Some}
use Rattle.st_core.specs.declared.types.Pid.{Pid}
use Rattle.st_core.specs.declared.types.Event.{Event}
use Rattle.st_core.specs.Pid.{pid_eq, IsBelow, IsRising}
use Rattle.st_core.specs.Streams.{IsStreams}
use Rattle.st_core.specs.Step.{Outcome, actor}
use Rattle.st_core.specs.Run.{Stream, Shows, run}
use Rattle.st_log.specs.declared.entry.Entry.{Entry}
use Rattle.st_runtime.specs.declared.join.record.Record.{Record}
use Rattle.st_runtime.specs.Pcb.{Control, IsFromLog}
use Rattle.st_runtime.specs.Pieces.{Parts, pids_in, AreWhole, calls_of, IsFit}

-- ---- the merge

-- one entry comes before another: by rank, then by actor
abbrev pub IsBefore : Entry → Entry → Type 0
IsBefore d e = (d.rank < e.rank) ⊎ ((d.rank ≡ e.rank) × IsBelow (actor d.act) (actor e.act))

-- es are the distinct entries of all logs, in order
pub record IsMerged (xs : List Control) (es : List Entry) : Type 0 where
  pub ordered : AllPairs IsBefore es
  pub logged : (e : Entry) → Contains es e → (x : Control) × Contains xs x × Contains x.log e
  pub all : All (λ x. All (Contains es) x.log) xs

-- ---- one run

-- the reports of p in entries
abbrev pub reports_of : Pid → List Entry → List Event
reports_of p [] = []
reports_of p (e ∷ es) =
    (if pid_eq (actor e.act) p then option_to_list e.report else []) ++ reports_of p es

-- the streams that the processes' logs tell of
abbrev pub streams_of : List Control → List Stream
streams_of xs =
    map (λ x. record { pid = x.process.pid; events = reports_of x.process.pid x.log }) xs

-- The entries' acts are a run of the machine from the zero state over the processes, with the
-- logged replies and reports. So they show the streams that the logs tell of, and each process's
-- calls among them are those of its log.
pub record IsOneRun (top : ℕ) (xs : List Control) (es : List Entry) : Type 0 where
  pub outcomes : List Outcome
  pub runs : run top (pids_in xs) (map (λ e. e.act) es) ≡ Some outcomes
  pub replies : map (λ o. o.reply) outcomes ≡ map (λ e. e.reply) es
  pub reports : map (λ o. o.report) outcomes ≡ map (λ e. e.report) es
  pub shows : Shows top (streams_of xs) (map (λ e. e.act) es)
  pub calls : All (λ x. calls_of x.process.pid es ≡ calls_of x.process.pid x.log) xs

-- the law: if processes come out of their locks and their entries are whole, the merged entries
-- are one run
abbrev pub OneRun : Type 0
OneRun = (top ranks : ℕ) (xs : List Control) (es : List Entry)
    → All (λ x. IsFromLog top ranks x.process x.log) xs → AreWhole xs → IsMerged xs es
    → IsOneRun top xs es

-- the law: if pids rise, the streams of one run are streams as they are collected
abbrev pub ShownStreams : Type 0
ShownStreams = (top : ℕ) (xs : List Control) (es : List Entry)
    → IsRising (pids_in xs) → IsOneRun top xs es → IsStreams (streams_of xs)

-- The pieces fit, and the record is that of their merged entries, which are one run and have each
-- seat's calls once, in order.
pub record IsJoined (top : ℕ) (pieces : Parts) (r : Record) : Type 0 where
  pub fit : IsFit pieces
  pub entries : List Entry
  pub merged : IsMerged pieces.processes entries
  pub run : IsOneRun top pieces.processes entries
  pub streams : r.streams ≡ streams_of pieces.processes
  pub acts : r.acts ≡ map (λ e. e.act) entries
  pub replies : r.replies ≡ map (λ e. e.reply) entries
  pub seats : All (λ s. calls_of s.pid entries ≡ s.mine) pieces.seats
