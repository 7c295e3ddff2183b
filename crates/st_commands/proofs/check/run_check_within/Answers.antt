-- The reader says which bytes it gave, an output that is owed for them was delivered, and the
-- status says what that output means.
use Rattle.st_commands.specs.Command.{call}
use Rattle.st_commands.specs.Checked.{IsChecked, Faulty}
use Rattle.st_commands.proofs.Deliveries.{owes_check, performs, tells_as, tells_fault, was_read}
use Rattle.st_commands.proofs.Meanings.{yes_means, no_means}
use Rattle.st_commands.proofs.check.run_check_within.Goals as goal

pub returns-in-Ok : goal.returns-in-Ok
returns-in-Ok g c =
    let read = was_read c.args.limits (call g.R.ByteSource _ _) c.in-Ok.bundle c.in-Ok.ensures in
    performs (yes_means c.args.limits) (no_means c.args.limits)
    (tells_as _ _ (owes_check _ _ _ read) c.check_bundle.ensures)

pub returns-in-Err : goal.returns-in-Err
returns-in-Err g c =
    performs (yes_means c.args.limits) (no_means c.args.limits)
    (tells_fault c.args.limits (call g.R.ByteSource _ _) (IsChecked c.args.limits) Faulty _ _
    c.in-Err.fault
    c.in-Err.ensures c.tell_fault.ensures)
