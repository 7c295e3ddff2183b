-- The output of `replay`: the bundle of the acts that the bytes spell and of what the acts report,
-- or the act without a step, or why the bytes spell no acts. The events in the input are ignored.
use Rattle.std.specs.Prelude.{◌≡◌, ℕ, List, ◌++◌, Some, codes, decimal}
use Rattle.st_core.specs.declared.types.Pid.{Pid}
use Rattle.st_core.specs.declared.types.Act.{Act}
use Rattle.st_core.specs.Step.{Outcome}
use Rattle.st_core.specs.Run.{Stream, pids_of, run}
use Rattle.st_check.specs.Answers.{SticksAt, reported_streams}
use Rattle.st_text.specs.declared.fault.ReadFault.{ReadFault}
use Rattle.st_text.specs.declared.limits.Limits.{Limits}
use Rattle.st_text.specs.Text.{spelling}
use Rattle.st_text.specs.Fault.{fault_within}
use Rattle.st_text.specs.Spelling.{ended_line}
use Rattle.st_commands.specs.Output.{Output, refused, no_acts}
use Rattle.st_commands.specs.Checked.{top, Spells, LacksActs}

-- the output that writes the streams that the acts report in their run over the pids, and the acts
abbrev pub replayed : List Pid → List Act → List Outcome → Output
replayed pids acts os =
    record {
      text = spelling (record { streams = reported_streams pids acts os; acts = Some acts });
      status = 0;
    }

-- the output if act n has no step
abbrev pub stuck : ℕ → Output
stuck n = record { text = ended_line (codes "no stuck " ++ decimal n); status = 1 }

-- the bytes spell streams and acts, and os are the outcomes of the acts' run over the pids of the
-- streams
pub record HasRun (limits : Limits) (bytes : List ℕ) (pids : List Pid) (acts : List Act)
    (os : List Outcome) : Type 0 where
  pub streams : List Stream
  pub spelled : Spells limits bytes streams (Some acts)
  pub listed : pids ≡ pids_of streams
  pub runs : run top pids acts ≡ Some os

-- the bytes spell streams and acts, and act n is the first that has no step
pub record HasStuck (limits : Limits) (bytes : List ℕ) (n : ℕ) : Type 0 where
  pub streams : List Stream
  pub acts : List Act
  pub spelled : Spells limits bytes streams (Some acts)
  pub sticks : SticksAt top (pids_of streams) acts n

-- the output that `replay` has for bytes
pub data IsReplayed (limits : Limits) : List ℕ → Output → Type 0 where
  Ran : (bytes : List ℕ) (pids : List Pid) (acts : List Act) (os : List Outcome)
      → HasRun limits bytes pids acts os
      → IsReplayed limits bytes (replayed pids acts os)
  Stuck : (bytes : List ℕ) (n : ℕ) → HasStuck limits bytes n → IsReplayed limits bytes (stuck n)
  Lacking : (bytes : List ℕ) → LacksActs limits bytes → IsReplayed limits bytes no_acts
  Faulty : (bytes : List ℕ) (f : ReadFault) → fault_within limits bytes ≡ Some f
      → IsReplayed limits bytes (refused f)
