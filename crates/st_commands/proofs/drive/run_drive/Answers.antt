-- The reader says which bytes it gave, an output that is owed for them was delivered, and the
-- status says what that output means.
use Rattle.std.proofs.Common.{arith}
use Rattle.st_commands.specs.Command.{call}
use Rattle.st_commands.specs.Recorded.{IsRecorded, Faulty}
use Rattle.st_commands.proofs.Deliveries.{performs, tells_as, tells_fault, was_read}
use Rattle.st_commands.proofs.Drives.{AreSmall, driven_means, owes_drive, stray_means}
use Rattle.st_text.specs.Limits.{standard}
use Rattle.st_commands.proofs.drive.run_drive.Goals as goal

pub returns-in-Ok : goal.returns-in-Ok
returns-in-Ok g c =
    let read = was_read standard (call g.R.ByteSource _ _) c.in-Ok.bundle c.in-Ok.ensures in
    let small : AreSmall standard = record { processes = omega arith; acts = omega arith } in
    performs (driven_means standard) (stray_means standard)
    (tells_as _ _ (owes_drive _ small _ _ read) c.drive_bundle.ensures)

pub returns-in-Err : goal.returns-in-Err
returns-in-Err g c =
    performs (driven_means standard) (stray_means standard)
    (tells_fault standard (call g.R.ByteSource _ _) (IsRecorded standard) Faulty _ _
    c.in-Err.fault
    c.in-Err.ensures c.tell_fault.ensures)
