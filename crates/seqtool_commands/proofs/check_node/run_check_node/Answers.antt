-- The reader returns the bytes that it read, the output is one that they owe, and its status says
-- which kind it is.
use Rattle.st_text.specs.Limits.{greater}
use Rattle.st_commands.specs.Command.{call}
use Rattle.st_commands.proofs.ForCallers.{performs, tells_as, tells_fault, was_read}
use Rattle.seqtool_commands.specs.NodeCheck.{Faulty, IsNodeChecked}
use Rattle.seqtool_commands.proofs.NodeChecks.{node_no_means, node_yes_means, owes_node_check}
use Rattle.seqtool_commands.proofs.check_node.run_check_node.Goals as goal

pub returns-in-Ok : goal.returns-in-Ok
returns-in-Ok g c =
    let read = was_read greater (call g.R.ByteSource _ _) c.in-Ok.bundle c.in-Ok.ensures in
    performs node_yes_means node_no_means
    (tells_as _ _ (owes_node_check _ _ read) c.check_bundle.ensures)

pub returns-in-Err : goal.returns-in-Err
returns-in-Err g c =
    performs node_yes_means node_no_means
    (tells_fault greater (call g.R.ByteSource _ _) IsNodeChecked Faulty _ _ c.in-Err.fault
    c.in-Err.ensures c.tell_fault.ensures)
