-- The reader returns the bytes that it read, the output is one that they owe, and its status says
-- which kind it is.
use Rattle.st_text.specs.Limits.{greater}
use Rattle.st_commands.specs.Command.{call}
use Rattle.st_commands.proofs.ForCallers.{says, tells_as, tells_fault, was_read}
use Rattle.seqtool_commands.specs.Why.{IsWhy, Faulty}
use Rattle.seqtool_commands.proofs.WhyDeliveries.{owes_why}
use Rattle.seqtool_commands.proofs.WhyMeanings.{told_means, untold_means}
use Rattle.seqtool_commands.proofs.why.run_why.Goals as goal

pub returns-in-Ok-clause-told : goal.returns-in-Ok-clause-told
returns-in-Ok-clause-told g c =
    let read = was_read greater (call g.R.ByteSource _ _) c.in-Ok.bundle c.in-Ok.ensures in
    tells_as _ _ (owes_why _ _ read c.args.question) c.answer_streams.ensures

pub returns-in-Ok-clause-found : goal.returns-in-Ok-clause-found
returns-in-Ok-clause-found g c =
    says 0 (λ same. cc) (told_means c.hops_are_true.ensures c.args.question)
    (returns-in-Ok-clause-told g c)

pub returns-in-Ok-clause-untold : goal.returns-in-Ok-clause-untold
returns-in-Ok-clause-untold g c =
    says 1 (λ same. cc) (untold_means c.a_run_has_an_order.ensures c.args.question)
    (returns-in-Ok-clause-told g c)

pub returns-in-Err-clause-told : goal.returns-in-Err-clause-told
returns-in-Err-clause-told g c =
    tells_fault greater (call g.R.ByteSource _ _) (IsWhy c.args.question) Faulty _ _ c.in-Err.fault
    c.in-Err.ensures c.tell_fault.ensures

pub returns-in-Err-clause-found : goal.returns-in-Err-clause-found
returns-in-Err-clause-found g c =
    says 0 (λ same. cc) (told_means c.hops_are_true.ensures c.args.question)
    (returns-in-Err-clause-told g c)

pub returns-in-Err-clause-untold : goal.returns-in-Err-clause-untold
returns-in-Err-clause-untold g c =
    says 1 (λ same. cc) (untold_means c.a_run_has_an_order.ensures c.args.question)
    (returns-in-Err-clause-told g c)
