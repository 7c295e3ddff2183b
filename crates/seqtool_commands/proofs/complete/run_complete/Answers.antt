-- The reader returns the bytes that it read, and the output is one that they owe.
use Rattle.st_text.specs.Limits.{greater}
use Rattle.st_commands.specs.Command.{call}
use Rattle.st_commands.proofs.ForCallers.{performs, says, tells_as, tells_fault, was_read}
use Rattle.seqtool_commands.specs.Complete.{IsOutputOfComplete, Faulty}
use Rattle.seqtool_commands.proofs.Meanings.{completed_means, long_means, never_means}
use Rattle.seqtool_commands.proofs.Deliveries.{owes_complete}
use Rattle.seqtool_commands.proofs.complete.run_complete.Goals as goal

pub returns-in-Ok-clause-performed : goal.returns-in-Ok-clause-performed
returns-in-Ok-clause-performed g c =
    let read = was_read greater (call g.R.ByteSource _ _) c.in-Ok.bundle c.in-Ok.ensures in
    performs (completed_means c.args.form) (never_means c.args.form)
    (tells_as _ _ (owes_complete _ _ read c.args.form) c.complete_streams.ensures)

pub returns-in-Err-clause-performed : goal.returns-in-Err-clause-performed
returns-in-Err-clause-performed g c =
    performs (completed_means c.args.form) (never_means c.args.form)
    (tells_fault greater (call g.R.ByteSource _ _) (IsOutputOfComplete c.args.form) Faulty _ _
    c.in-Err.fault
    c.in-Err.ensures c.tell_fault.ensures)

pub returns-in-Ok-clause-long : goal.returns-in-Ok-clause-long
returns-in-Ok-clause-long g c =
    says 5 (λ same. cc) (long_means c.args.form) (returns-in-Ok-clause-performed g c).told

pub returns-in-Err-clause-long : goal.returns-in-Err-clause-long
returns-in-Err-clause-long g c =
    says 5 (λ same. cc) (long_means c.args.form) (returns-in-Err-clause-performed g c).told
