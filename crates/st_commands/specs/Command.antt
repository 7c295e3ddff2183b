-- The duty of a command: it reads all bytes of its reader, writes the output for them to its
-- writer, and returns the output's status.
use Rattle.std.specs.Prelude.{◌≡◌, ℕ, ◌+◌, ◌≤◌, true, false, List, length, ◌⊎◌, Some, None}
use Rattle.st_core.specs.declared.device.sink.ByteSink.{Ghosts as SinkOf}
use Rattle.st_core.specs.declared.device.source.ByteSource.{Ghosts as SourceOf}
use Rattle.st_core.specs.Device.{InARow}
use Rattle.st_text.specs.declared.limits.Limits.{Limits}
use Rattle.st_text.specs.Writing.{Writes, WritesPart}
use Rattle.clap.specs.Words.{Text}
use Rattle.st_commands.specs.declared.words.Task.{Task}
use Rattle.st_commands.specs.declared.words.Task.TheVariants as task
use Rattle.st_commands.specs.Words.{task_asked}
use Rattle.st_commands.specs.Output.{Output, no_memory, no_device, usage}
use Rattle.st_commands.specs.Checked.{IsChecked}
use Rattle.st_commands.specs.Audited.{IsAudited}
use Rattle.st_commands.specs.Replayed.{IsReplayed}
use Rattle.st_commands.specs.Charted.{IsCharted}
use Rattle.st_commands.specs.Recorded.{IsRecorded}

-- ---- the call of a device

-- A command's call as one device sees it: the device's trait, and the device's states before and
-- after the call.
pub record Call (Trait : Type 1) (S : Type 0) : Type 1 where
  pub device : Trait
  pub old : S
  pub new : S

-- A clause writes `call R.ByteSource reader.old reader.new` for a reader, and
-- `call W.ByteSink writer.old writer.new` for a writer.
abbrev pub call : {Trait : Type 1} {S : Type 0} → Trait → S → S → Call Trait S
call device old new = record { device = device; old = old; new = new }

abbrev pub ReaderCall : Type 0 → Type 1
ReaderCall R = Call (SourceOf R) R

abbrev pub WriterCall : Type 0 → Type 1
WriterCall W = Call (SinkOf W) W

-- ---- reading

-- The limits are those of the reader: how many bytes, processes, events and acts a text may have.
module _ (limits : Limits) {R : Type 0} (reader : ReaderCall R) where
  -- The reader gave the bytes, one piece after the other, without a failure. Then it had ended, or
  -- it had given one byte more than the limit.
  pub record ReadsAll (bytes : List ℕ) : Type 0 where
    pub given : InARow reader.device.gives reader.old bytes reader.new
    pub whole : reader.device.ended reader.new ⊎ (length bytes ≡ limits.bytes + 1)
    pub sound : reader.device.failed reader.new ≡ false

  -- The output that a command owes: an output for all bytes that it read, or `fault memory` if
  -- memory ran out, or `fault device` if the reader failed. Neither fault comes if the reader gave
  -- more bytes than the limit.
  pub data Owes (IsOutput : List ℕ → Output → Type 0) : Output → Type 0 where
    OfBytes : (bytes : List ℕ) (out : Output) → ReadsAll bytes → IsOutput bytes out
        → Owes IsOutput out
    ForMemory : (bytes : List ℕ) → ReadsAll bytes → length bytes ≤ limits.bytes
        → Owes IsOutput no_memory
    ForReader : (bytes : List ℕ) → InARow reader.device.gives reader.old bytes reader.new
        → length bytes ≤ limits.bytes
        → reader.device.failed reader.new ≡ true
        → Owes IsOutput no_device

  -- the output that each command owes
  abbrev pub OwesBy : Task → Output → Type 0
  OwesBy task.Check out = Owes (IsChecked limits) out
  OwesBy task.Audit out = Owes (IsAudited limits) out
  OwesBy task.Replay out = Owes (IsReplayed limits) out
  OwesBy task.Drive out = Owes (IsRecorded limits) out
  OwesBy (task.Chart label) out = Owes (IsCharted limits label) out

  -- the output that the program owes for its words; if they ask for no command, or if memory runs
  -- out for them, nothing is read
  pub data OwesFor (words : List Text) : Output → Type 0 where
    ForCommand : (t : Task) (out : Output) → task_asked words ≡ Some t → OwesBy t out
        → OwesFor words out
    ForUsage : task_asked words ≡ None → reader.new ≡ reader.old → OwesFor words usage
    ForNoMemory : reader.new ≡ reader.old → OwesFor words no_memory

-- ---- writing

module _ {W : Type 0} (writer : WriterCall W) where
  -- The output was written whole and its status returned; or the writer failed after a prefix of
  -- the text, and the status is 4.
  pub data Delivers (out : Output) : ℕ → Type 0 where
    Whole : Writes writer.device.puts writer.device.failed out.text writer.old writer.new
        → Delivers out out.status
    Part : WritesPart writer.device.puts writer.device.failed out.text writer.old writer.new
        → Delivers out 4

  -- an output that is owed was delivered
  pub record Tells (IsOwed : Output → Type 0) (status : ℕ) : Type 0 where
    pub output : Output
    pub owed : IsOwed output
    pub delivered : Delivers output status
