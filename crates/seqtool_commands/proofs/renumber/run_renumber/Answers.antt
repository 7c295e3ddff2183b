-- The reader returns the bytes that it read, and the output is one that they owe.
use Rattle.st_text.specs.Limits.{greater}
use Rattle.st_commands.specs.Command.{call}
use Rattle.st_commands.proofs.ForCallers.{says, tells_as, tells_fault, was_read}
use Rattle.seqtool_commands.specs.Renumber.{IsRenumbered, Faulty}
use Rattle.seqtool_commands.proofs.Deliveries.{owes_renumber}
use Rattle.seqtool_commands.proofs.RenumberMeanings.{refused_means, renumbered_means}
use Rattle.seqtool_commands.proofs.renumber.run_renumber.Goals as goal

pub returns-in-Ok-clause-told : goal.returns-in-Ok-clause-told
returns-in-Ok-clause-told g c =
    let read = was_read greater (call g.R.ByteSource _ _) c.in-Ok.bundle c.in-Ok.ensures in
    tells_as _ _ (owes_renumber _ _ read) c.renumber_streams.ensures

pub returns-in-Err-clause-told : goal.returns-in-Err-clause-told
returns-in-Err-clause-told g c =
    tells_fault greater (call g.R.ByteSource _ _) IsRenumbered Faulty _ _ c.in-Err.fault
    c.in-Err.ensures c.tell_fault.ensures

pub returns-in-Ok-clause-renumbered : goal.returns-in-Ok-clause-renumbered
returns-in-Ok-clause-renumbered g c =
    says 0 (λ same. cc)
    (renumbered_means c.counts_can_be_put_back.ensures c.shown_if_renumbered_is.ensures)
    (returns-in-Ok-clause-told g c)

pub returns-in-Err-clause-renumbered : goal.returns-in-Err-clause-renumbered
returns-in-Err-clause-renumbered g c =
    says 0 (λ same. cc)
    (renumbered_means c.counts_can_be_put_back.ensures c.shown_if_renumbered_is.ensures)
    (returns-in-Err-clause-told g c)

pub returns-in-Ok-clause-refused : goal.returns-in-Ok-clause-refused
returns-in-Ok-clause-refused g c = says 2 (λ same. cc) refused_means (returns-in-Ok-clause-told g c)

pub returns-in-Err-clause-refused : goal.returns-in-Err-clause-refused
returns-in-Err-clause-refused g c =
    says 2 (λ same. cc) refused_means (returns-in-Err-clause-told g c)
