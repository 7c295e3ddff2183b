-- Each verdict has a line, and so has running out of memory.
use Rattle.st_commands.specs.Output.{no_memory}
use Rattle.seqtool_commands.specs.NodeCheck.{Judges, node_judged, NoRoom}
use Rattle.seqtool_commands.proofs.check_node.check_acts.Goals as goal

pub returns-in-Ok : goal.returns-in-Ok
returns-in-Ok g c =
    let answer = c.in-Ok.ensures in
    record {
      output = node_judged c.in-Ok.verdict;
      owed = Judges c.in-Ok.verdict answer.verdict answer.refutes;
      delivered = c.tell_node_verdict.ensures;
    }

pub returns-in-Err-Memory : goal.returns-in-Err-Memory
returns-in-Err-Memory g c =
    record { output = no_memory; owed = NoRoom; delivered = c.tell_fault.ensures }
