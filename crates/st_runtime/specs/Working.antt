-- The job of a worker thread, and the ending that it leaves.
use Rattle.std.specs.Prelude.{◌≡◌, ℕ, List, Option, Some, None, MatchOption, IfSome}
use Rattle.std.specs.Prelude.{All, take, slice_get}
use Rattle.std.specs.List.{AllZip}
use Rattle.st_core.specs.declared.types.Pid.{Pid}
use Rattle.st_core.specs.declared.types.Act.{Act}
use Rattle.st_runtime.specs.declared.fault.ActFault.{ActFault}
use Rattle.st_runtime.specs.declared.fault.DriveFault.{DriveFault}
use Rattle.st_runtime.specs.declared.fault.DriveFault.TheVariants as fault
use Rattle.st_runtime.specs.declared.fault.JoinFault.{JoinFault}
use Rattle.st_runtime.specs.declared.fault.JoinFault.TheVariants as joining
use Rattle.st_runtime.specs.declared.fault.SystemFault.{SystemFault}
use Rattle.st_runtime.specs.declared.fault.SystemFault.TheVariants as opening
use Rattle.st_runtime.specs.declared.driver.worker.Ending.{Ending}
use Rattle.st_runtime.specs.Driven.{IsOwn, IsRefused}

-- what came of a process's script in a system with the given pids: without a fault each act is the
-- process's own, and with one the act after the made ones was refused
abbrev pub IsPlayed : List Pid → (Pid × List Act) → ℕ → Option ActFault → Type 0
IsPlayed pids job made fault =
    MatchOption fault (All (IsOwn pids job.0) job.1) (IsRefused pids job.0 job.1 made)

-- the ending is that of the job
pub record IsWorked (pids : List Pid) (job : Pid × List Act) (end : Ending) : Type 0 where
  pub pid : end.pid ≡ job.0
  pub script : end.script ≡ job.1
  pub played : IsPlayed pids job end.made end.fault

-- a worker that wasn't told to stop leaves the ending of its job
abbrev pub LeavesEnding : List Pid → (Pid × List Act) → Option Ending → Type 0
LeavesEnding pids job left = IfSome left (IsWorked pids job)

-- each ending is that of its job
abbrev pub AreWorked : List Pid → List (Pid × List Act) → List Ending → Type 0
AreWorked pids jobs ends = AllZip (IsWorked pids) jobs ends

-- the first refusal that a worker met: its pid, the number of the act in its script, and the
-- reason
pub record IsFirstRefusal (ends : List Ending) (p : Pid) (n : ℕ) (f : ActFault) : Type 0 where
  pub number : ℕ
  pub end : Ending
  pub among : slice_get ends number ≡ Some end
  pub before : All (λ e. e.fault ≡ None) (take number ends)
  pub pid : end.pid ≡ p
  pub place : end.made ≡ n
  pub refused : end.fault ≡ Some f

-- a refusal of the drive itself, which says nothing of the scripts
abbrev pub IsOwnFault : DriveFault → Type 0
IsOwnFault fault.Memory = Unit {0}
IsOwnFault (fault.Act p n f) = ⊥
IsOwnFault (fault.Join f) = ⊥
IsOwnFault fault.Thread = Unit {0}
IsOwnFault fault.NotRising = ⊥

-- the drive's fault for a refusal to open a system
abbrev pub opening_fault : SystemFault → DriveFault
opening_fault opening.Memory = fault.Memory
opening_fault opening.NotRising = fault.NotRising

-- the drive's fault for a refusal to join pieces
abbrev pub joining_fault : JoinFault → DriveFault
joining_fault joining.Memory = fault.Memory
joining_fault (joining.Missing p i) = fault.Join (joining.Missing p i)
joining_fault (joining.SeatDiffers p) = fault.Join (joining.SeatDiffers p)
