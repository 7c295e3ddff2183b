-- The output of `drive`: the bundle of one run in which each process makes its own acts among
-- those that the bytes spell, in order; or why no run was made, or why the bytes spell no acts.
-- The events in the input are ignored.
use Rattle.std.specs.Prelude.{◌≡◌, ℕ, List, ◌++◌, Some, map, codes, decimal}
use Rattle.st_core.specs.declared.types.Pid.{Pid}
use Rattle.st_core.specs.declared.types.Act.{Act}
use Rattle.st_core.specs.Run.{Stream, pids_of}
use Rattle.st_runtime.specs.declared.fault.ActFault.TheVariants as act
use Rattle.st_runtime.specs.declared.fault.DriveFault.TheVariants as drive
use Rattle.st_runtime.specs.declared.join.record.Record.{Record}
use Rattle.st_runtime.specs.Driven.{IsDriven, IsDriveFault, acts_by}
use Rattle.st_text.specs.declared.fault.ReadFault.{ReadFault}
use Rattle.st_text.specs.declared.limits.Limits.{Limits}
use Rattle.st_text.specs.Spelling as spelled
use Rattle.st_text.specs.Spelling.{ended_line}
use Rattle.st_text.specs.Text.{spelling}
use Rattle.st_text.specs.Fault.{fault_within}
use Rattle.st_commands.specs.Output.{Output, refused, no_acts}
use Rattle.st_commands.specs.Checked.{top, Spells, LacksActs}

-- the greatest rank that the program can give to an entry of a log: the greatest u64
abbrev pub ranks : ℕ
ranks = 18446744073709551615

-- the scripts of the processes: the script of a process is its own acts, in order
abbrev pub scripts_of : List Pid → List Act → List (List Act)
scripts_of pids acts = map (λ p. acts_by p acts) pids

-- the output that writes a record as a bundle
abbrev pub record_output : Record → Output
record_output r = record {
  text = spelling (record { streams = r.streams; acts = Some r.acts });
  status = 0;
}

-- the bytes spell streams and acts, and r is the record of one run in which each of the streams'
-- processes made exactly its own acts, in order
pub record HasRecord (limits : Limits) (bytes : List ℕ) (r : Record) : Type 0 where
  pub streams : List Stream
  pub acts : List Act
  pub spelled : Spells limits bytes streams (Some acts)
  pub driven : IsDriven top ranks (pids_of streams) (scripts_of (pids_of streams) acts) r

-- ---- no record

abbrev pub act_fault_words : Pid → ℕ → List ℕ
act_fault_words p n = codes "fault act " ++ spelled.pid p ++ codes " " ++ decimal n

-- the output if act n of p's script was refused
abbrev pub act_fault : Pid → ℕ → Output
act_fault p n = record { text = ended_line (act_fault_words p n); status = 1 }

-- the output if a thread couldn't be started
abbrev pub thread_fault : Output
thread_fault = record { text = ended_line (codes "fault thread"); status = 4 }

-- the output if the pieces that the threads left aren't one run
abbrev pub join_fault : Output
join_fault = record { text = ended_line (codes "fault join"); status = 4 }

-- the bytes spell streams and acts
pub record HasActs (limits : Limits) (bytes : List ℕ) : Type 0 where
  pub streams : List Stream
  pub acts : List Act
  pub spelled : Spells limits bytes streams (Some acts)

-- The bytes spell streams and acts, and act n of p's script was refused as `Stray`: a lock held
-- another process than its own. No call leaves a lock so, but no clause says that.
pub record HasStray (limits : Limits) (bytes : List ℕ) (p : Pid) (n : ℕ) : Type 0 where
  pub streams : List Stream
  pub acts : List Act
  pub spelled : Spells limits bytes streams (Some acts)
  pub refused : IsDriveFault top ranks (pids_of streams) (scripts_of (pids_of streams) acts)
      (drive.Act p n act.Stray)

-- the output that `drive` has for bytes; no act is refused for another cause than `Stray`
pub data IsRecorded (limits : Limits) : List ℕ → Output → Type 0 where
  Recorded : (bytes : List ℕ) (r : Record) → HasRecord limits bytes r
      → IsRecorded limits bytes (record_output r)
  Strayed : (bytes : List ℕ) (p : Pid) (n : ℕ) → HasStray limits bytes p n
      → IsRecorded limits bytes (act_fault p n)
  Unstarted : (bytes : List ℕ) → HasActs limits bytes → IsRecorded limits bytes thread_fault
  Unjoined : (bytes : List ℕ) → HasActs limits bytes → IsRecorded limits bytes join_fault
  Lacking : (bytes : List ℕ) → LacksActs limits bytes → IsRecorded limits bytes no_acts
  Faulty : (bytes : List ℕ) (f : ReadFault) → fault_within limits bytes ≡ Some f
      → IsRecorded limits bytes (refused f)
