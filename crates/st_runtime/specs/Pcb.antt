-- A process under its lock as contracts see it, and the acts on lent processes.
use Rattle.std.specs.Prelude.{◌≡◌, ◌≢◌, ℕ, ◌+◌, ◌≤◌, Bool, true, false, List, [], ◌∷◌, ◌++◌, map}
use Rattle.std.specs.Prelude.{max, Option, Some}
use Rattle.st_core.specs.declared.types.Pid.{Pid}
use Rattle.st_core.specs.declared.types.Act.{Act}
use Rattle.st_core.specs.declared.types.Act.TheVariants as act
use Rattle.st_core.specs.declared.types.Reply.{Reply}
use Rattle.st_core.specs.Pid.{pid_eq}
use Rattle.st_core.specs.State.{Process, State}
use Rattle.st_core.specs.Step.{Outcome, step}
use Rattle.st_log.specs.declared.entry.Entry.{Entry}
use Rattle.st_log.specs.Entries.{last_rank}
use Rattle.st_runtime.specs.Logs.{IsLocal, RanksRise}

-- a process, its log, and the number of further entries for which the log has room
pub record Control : Type 0 where
  pub process : Process
  pub log : List Entry
  pub spare : ℕ

-- the invariant of `Pcb`: ranks rise strictly from 1 to RANKS, and the log gives the process's
-- state
pub record IsFromLog (top ranks : ℕ) (r : Process) (log : List Entry) : Type 0 where
  pub rises : RanksRise 0 log
  pub within : last_rank 0 log ≤ ranks
  pub local : IsLocal top r log

-- process and log are the same; only room may differ
pub record IsSame (x y : Control) : Type 0 where
  pub process : y.process ≡ x.process
  pub log : y.log ≡ x.log

-- the lent processes as a state of the machine
abbrev pub lent_state : List Control → State
lent_state xs = map (λ x. x.process) xs

-- the greatest rank in the logs, 0 if all are empty
abbrev pub greatest_rank : List Control → ℕ
greatest_rank [] = 0
greatest_rank (x ∷ xs) = max (last_rank 0 x.log) (greatest_rank xs)

-- the outcome of a step with the entry's reply and report, after which the processes are the given
-- ones
abbrev pub entry_outcome : Entry → Option ℕ → List Control → Outcome
entry_outcome e place after =
    record { reply = e.reply; report = e.report; place = place; after = lent_state after }

-- the lent processes make the machine's step, and each of their logs gets the same entry at its
-- end
pub record IsStepped (top : ℕ) (a : Act) (y : Reply) (before after : List Control) : Type 0 where
  pub entry : Entry
  pub place : Option ℕ
  pub step : step top (lent_state before) a ≡ Some (entry_outcome entry place after)
  pub act : entry.act ≡ a
  pub reply : entry.reply ≡ y
  pub rank : entry.rank ≡ greatest_rank before + 1
  pub logs : map (λ x. x.log) after ≡ map (λ x. x.log ++ entry ∷ []) before

-- an act that touches its actor alone: neither of a whole node nor a send to another
abbrev pub is_alone : Act → Bool
is_alone (act.Send p q v) = pid_eq p q
is_alone (act.Reset p) = false
is_alone (act.Tracer p b) = false
is_alone a = true

-- a send from p to q, another process
abbrev pub IsBetween : Act → Pid → Pid → Type 0
IsBetween a p q = (p ≢ q) × (v : ℕ) × (a ≡ act.Send p q v)
