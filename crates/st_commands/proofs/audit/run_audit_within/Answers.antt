-- The reader says which bytes it gave, an output that is owed for them was delivered, and the
-- status says what that output means.
use Rattle.st_commands.specs.Command.{call}
use Rattle.st_commands.specs.Audited.{IsAudited, Faulty}
use Rattle.st_commands.proofs.Deliveries.{owes_audit, performs, tells_as, tells_fault, was_read}
use Rattle.st_commands.proofs.Findings.{fits_means, unfit_means}
use Rattle.st_commands.proofs.audit.run_audit_within.Goals as goal

pub returns-in-Ok : goal.returns-in-Ok
returns-in-Ok g c =
    let read = was_read c.args.limits (call g.R.ByteSource _ _) c.in-Ok.bundle c.in-Ok.ensures in
    performs (fits_means c.args.limits) (unfit_means c.args.limits)
    (tells_as _ _ (owes_audit _ _ _ read) c.audit_streams.ensures)

pub returns-in-Err : goal.returns-in-Err
returns-in-Err g c =
    performs (fits_means c.args.limits) (unfit_means c.args.limits)
    (tells_fault c.args.limits (call g.R.ByteSource _ _) (IsAudited c.args.limits) Faulty _ _
    c.in-Err.fault
    c.in-Err.ensures c.tell_fault.ensures)
