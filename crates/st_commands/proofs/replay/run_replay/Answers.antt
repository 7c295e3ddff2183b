-- The reader says which bytes it gave, an output that is owed for them was delivered, and the
-- status says what that output means.
use Rattle.std.proofs.Common.{◌≤◌, arith}
use Rattle.st_commands.specs.Checked.{top}
use Rattle.st_commands.specs.Command.{call}
use Rattle.st_commands.specs.Replayed.{IsReplayed, Faulty}
use Rattle.st_commands.proofs.Deliveries.{owes_replay, performs, tells_as, tells_fault, was_read}
use Rattle.st_commands.proofs.Meanings.{never_refused, replayed_means}
use Rattle.st_text.specs.Limits.{standard}
use Rattle.st_commands.proofs.replay.run_replay.Goals as goal

pub returns-in-Ok : goal.returns-in-Ok
returns-in-Ok g c =
    let read = was_read standard (call g.R.ByteSource _ _) c.in-Ok.bundle c.in-Ok.ensures in
    let few : standard.acts ≤ top = omega arith in
    performs (replayed_means standard) (never_refused standard few)
    (tells_as _ _ (owes_replay _ _ _ read) c.replay_bundle.ensures)

pub returns-in-Err : goal.returns-in-Err
returns-in-Err g c =
    let few : standard.acts ≤ top = omega arith in
    performs (replayed_means standard) (never_refused standard few)
    (tells_fault standard (call g.R.ByteSource _ _) (IsReplayed standard) Faulty _ _
    c.in-Err.fault
    c.in-Err.ensures c.tell_fault.ensures)
