-- The pieces of a system that ran: its processes with their logs, and the seats. When they fit,
-- and what fails to fit first.
use Rattle.std.specs.Prelude.{◌≡◌, ℕ, true, List, [], ◌∷◌, ◌++◌, map, filter, Some, if◌then◌else◌}
use Rattle.std.specs.Prelude.{All, Contains, take, slice_get}
use Rattle.st_core.specs.declared.types.Pid.{Pid}
use Rattle.st_core.specs.declared.types.Act.{Act}
use Rattle.st_core.specs.declared.types.Reply.{Reply}
use Rattle.st_core.specs.Pid.{pid_eq, IsBelow}
use Rattle.st_core.specs.Step.{actor, receiver, touches}
use Rattle.st_core.specs.Streams.{is_among}
use Rattle.st_log.specs.declared.entry.Entry.{Entry}
use Rattle.st_runtime.specs.declared.fault.JoinFault.{JoinFault}
use Rattle.st_runtime.specs.declared.fault.JoinFault.TheVariants as fault
use Rattle.st_runtime.specs.Pcb.{Control}
use Rattle.st_runtime.specs.Seat.{Calls}

-- processes with their logs, and seats
pub record Parts : Type 0 where
  pub processes : List Control
  pub seats : List Calls

-- the pids of processes
abbrev pub pids_in : List Control → List Pid
pids_in xs = map (λ x. x.process.pid) xs

-- ---- entries

-- the process has the entry if the entry touches it
abbrev pub HasIfTouched : Entry → Control → Type 0
HasIfTouched e x = touches e.act x.process.pid ≡ true → Contains x.log e

-- the actor and a send's receiver are there, and each process that the act touches has the entry
pub record IsWholeEntry (xs : List Control) (e : Entry) : Type 0 where
  pub actor : is_among (pids_in xs) (actor e.act) ≡ true
  pub receiver : is_among (pids_in xs) (receiver e.act) ≡ true
  pub everywhere : All (HasIfTouched e) xs

-- each entry of each log is whole
abbrev pub AreWhole : List Control → Type 0
AreWhole xs = All (λ x. All (IsWholeEntry xs) x.log) xs

-- the entry at place i of p's log is the first, by pid and then place, that isn't whole
pub record IsFirstMissing (xs : List Control) (p : Pid) (i : ℕ) : Type 0 where
  pub number : ℕ
  pub before : All (λ x. All (IsWholeEntry xs) x.log) (take number xs)
  pub control : Control
  pub is_at : slice_get xs number ≡ Some control
  pub pid : control.process.pid ≡ p
  pub front : All (IsWholeEntry xs) (take i control.log)
  pub entry : Entry
  pub place : slice_get control.log i ≡ Some entry
  pub missing : ¬ IsWholeEntry xs entry

-- ---- seats

-- the calls of p in entries: p's own acts with their replies
abbrev pub calls_of : Pid → List Entry → List (Act × Reply)
calls_of p [] = []
calls_of p (e ∷ es) =
    (if pid_eq (actor e.act) p then (e.act, e.reply) ∷ [] else []) ++ calls_of p es

-- the seat that a process's log tells of
abbrev pub seat_of : Control → Calls
seat_of x = record { pid = x.process.pid; mine = calls_of x.process.pid x.log }

-- the seats of p
abbrev pub seats_at : List Calls → Pid → List Calls
seats_at seats p = filter (λ s. pid_eq s.pid p) seats

-- the seats that logs tell of for p: one, or none if p has no log
abbrev pub seats_told : List Control → Pid → List Calls
seats_told xs p = map seat_of (filter (λ x. pid_eq x.process.pid p) xs)

-- p has only the seat that its log tells of, and none if it has no log
abbrev pub IsSeated : Parts → Pid → Type 0
IsSeated pieces p = seats_at pieces.seats p ≡ seats_told pieces.processes p

-- p is the least pid that isn't seated
pub record IsFirstUnseated (pieces : Parts) (p : Pid) : Type 0 where
  pub here : ¬ IsSeated pieces p
  pub before : (q : Pid) → IsBelow q p → IsSeated pieces q

-- ---- pieces that fit

-- the pieces fit: their entries are whole, and each pid is seated
pub record IsFit (pieces : Parts) : Type 0 where
  pub whole : AreWhole pieces.processes
  pub seated : (p : Pid) → IsSeated pieces p

-- the reason why pieces aren't joined: a missing entry comes before a seat that differs, and
-- memory runs out only for pieces that fit
abbrev pub IsJoinFault : Parts → JoinFault → Type 0
IsJoinFault pieces fault.Memory = IsFit pieces
IsJoinFault pieces (fault.Missing p i) = IsFirstMissing pieces.processes p i
IsJoinFault pieces (fault.SeatDiffers p) = AreWhole pieces.processes × IsFirstUnseated pieces p
