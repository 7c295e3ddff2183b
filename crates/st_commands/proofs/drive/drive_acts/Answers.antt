-- The result of `drive` is written, or `fault memory` if memory runs out for the scripts.
use Rattle.st_commands.specs.Output.{no_memory}
use Rattle.st_commands.specs.Recorded.{record_output}
use Rattle.st_commands.specs.Parts.{Records, Refuses, NoRoomToDrive, drive_refused}
use Rattle.st_commands.proofs.drive.drive_acts.Goals as goal

pub returns-in_default : goal.returns-in_default
returns-in_default g c =
    record { output = no_memory; owed = NoRoomToDrive; delivered = c.tell_fault.ensures }

pub returns-in-Ok-drive : goal.returns-in-Ok-drive
returns-in-Ok-drive g c =
    record {
      output = record_output c.in-Ok-drive.record;
      owed = Records c.in-Ok-drive.record
          (rw (c.pids.ensures.value, c.in-Ok.ensures) at c.in-Ok-drive.ensures.ok);
      delivered = rw c.as_slice.ensures at c.tell_bundle.ensures;
    }

pub returns-in-Err : goal.returns-in-Err
returns-in-Err g c =
    record {
      output = drive_refused c.in-Err.fault;
      owed = Refuses c.in-Err.fault (rw (c.pids.ensures.value, c.in-Ok.ensures) at
          c.in-Err.ensures.err);
      delivered = c.tell_undriven.ensures;
    }
