-- Driving scripts: what a record says of the scripts, and what each refusal says of them.
use Rattle.std.specs.Prelude.{◌≡◌, ◌≢◌, ◌↔◌, ℕ, ◌<◌, true, false, List, map, filter, length, sum_by}
use Rattle.std.specs.Prelude.{count_by, All, zip, take, slice_get, Some}
use Rattle.st_core.specs.declared.types.Pid.{Pid}
use Rattle.st_core.specs.declared.types.Act.{Act}
use Rattle.st_core.specs.Pid.{pid_eq, IsRising}
use Rattle.st_core.specs.Run.{Shows, pids_of, run}
use Rattle.st_core.specs.Step.{Outcome, actor}
use Rattle.st_core.specs.Streams.{IsStreams}
use Rattle.st_log.specs.declared.entry.Entry.{Entry}
use Rattle.st_runtime.specs.declared.fault.ActFault.{ActFault}
use Rattle.st_runtime.specs.declared.fault.ActFault.TheVariants as act
use Rattle.st_runtime.specs.declared.fault.DriveFault.{DriveFault}
use Rattle.st_runtime.specs.declared.fault.DriveFault.TheVariants as fault
use Rattle.st_runtime.specs.declared.fault.JoinFault.TheVariants as joining
use Rattle.st_runtime.specs.declared.join.record.Record.{Record}
use Rattle.st_runtime.specs.Joined.{IsMerged}
use Rattle.st_runtime.specs.Pcb.{Control, IsFromLog}
use Rattle.st_runtime.specs.Pieces.{pids_in, AreWhole}
use Rattle.st_runtime.specs.System.{knows, is_stamping}

-- the acts that p makes, in order
abbrev pub acts_by : Pid → List Act → List Act
acts_by p acts = filter (λ a. pid_eq (actor a) p) acts

-- The record comes from logs of exactly the given processes, which their locks kept: its acts are
-- the logs' distinct entries by rank and then actor. It is one run of the machine, and each
-- process's acts in it are its script.
pub record IsDriven (top ranks : ℕ) (pids : List Pid) (scripts : List (List Act))
    (r : Record) : Type 0 where
  pub logs : List Control
  pub logged : pids_in logs ≡ pids
  pub kept : All (λ x. IsFromLog top ranks x.process x.log) logs
  pub whole : AreWhole logs
  pub entries : List Entry
  pub merged : IsMerged logs entries
  pub acts : r.acts ≡ map (λ e. e.act) entries
  pub outcomes : List Outcome
  pub runs : run top pids r.acts ≡ Some outcomes
  pub replies : r.replies ≡ map (λ o. o.reply) outcomes
  pub shows : Shows top r.streams r.acts
  pub streams : IsStreams r.streams
  pub listed : pids_of r.streams ≡ pids
  pub made : map (λ p. acts_by p r.acts) pids ≡ scripts

-- the number of acts in scripts
abbrev pub acts_in : List (List Act) → ℕ
acts_in scripts = sum_by (λ script. length script) scripts

-- the number of acts in scripts that stamp a token, if there is one
abbrev pub stamps_in : List (List Act) → ℕ
stamps_in scripts = sum_by (λ script. count_by is_stamping script) scripts

-- p may make the act in a system with the given pids: it is p's own, and names only processes of
-- the system
pub record IsOwn (pids : List Pid) (p : Pid) (a : Act) : Type 0 where
  pub mine : actor a ≡ p
  pub known : knows pids a ≡ true

-- Act n of p's script is refused in a system with the given pids. NotYours and Unknown come
-- exactly if they hold, and hold for no act of the script before it.
pub record IsRefused (pids : List Pid) (p : Pid) (script : List Act) (n : ℕ)
    (f : ActFault) : Type 0 where
  pub asked : Act
  pub place : slice_get script n ≡ Some asked
  pub not_yours : (f ≡ act.NotYours) ↔ (actor asked ≢ p)
  pub unknown : (f ≡ act.Unknown) ↔ ((actor asked ≡ p) × (knows pids asked ≡ false))
  pub clock : f ≡ act.ClockFull → is_stamping asked ≡ true
  pub before : All (IsOwn pids p) (take n script)

-- The scripts have enough acts for the refusal: to fill a clock or a rank takes more acts than it
-- counts to. If memory runs out, the drive itself fails.
abbrev pub IsPossible : ℕ → ℕ → List (List Act) → ActFault → Type 0
IsPossible top ranks scripts act.NotYours = Unit {0}
IsPossible top ranks scripts act.Unknown = Unit {0}
IsPossible top ranks scripts act.Stray = Unit {0}
IsPossible top ranks scripts act.ClockFull = top < stamps_in scripts
IsPossible top ranks scripts act.RankFull = ranks < acts_in scripts
IsPossible top ranks scripts act.Memory = ⊥

-- Act n of p's script was refused, and each process before p may make every act of its own script.
pub record IsWorkerFault (top ranks : ℕ) (pids : List Pid) (scripts : List (List Act)) (p : Pid)
    (n : ℕ) (f : ActFault)
    : Type 0 where
  pub number : ℕ
  pub script : List Act
  pub scripted : slice_get (zip pids scripts) number ≡ Some (p, script)
  pub refused : IsRefused pids p script n f
  pub possible : IsPossible top ranks scripts f
  pub before : All (λ t. All (IsOwn pids t.0) t.1) (take number (zip pids scripts))

-- the reason why scripts aren't driven; NotRising exactly if the pids don't rise
abbrev pub IsDriveFault : ℕ → ℕ → List Pid → List (List Act) → DriveFault → Type 0
IsDriveFault top ranks pids scripts fault.Memory = IsRising pids
IsDriveFault top ranks pids scripts (fault.Act p n f) =
    IsRising pids × IsWorkerFault top ranks pids scripts p n f
IsDriveFault top ranks pids scripts (fault.Join f) = IsRising pids × (f ≢ joining.Memory)
IsDriveFault top ranks pids scripts fault.Thread = IsRising pids
IsDriveFault top ranks pids scripts fault.NotRising = ¬ IsRising pids
