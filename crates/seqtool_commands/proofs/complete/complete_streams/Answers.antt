-- An answer is written, and running out of memory has a line of its own, and so has a completion
-- that isn't found.
use Rattle.std.proofs.Common.{◌≡◌, List, subst}
use Rattle.st_core.specs.Run.{Stream}
use Rattle.st_commands.specs.Checked.{top}
use Rattle.st_commands.specs.Output.{no_memory}
use Rattle.lack_decide.specs.declared.answer.CompleteFault.{CompleteFault}
use Rattle.lack_decide.specs.Answers.{IsFaultOf}
use Rattle.seqtool_commands.specs.Complete.{uncompleted}
use Rattle.seqtool_commands.specs.Parts.{FindsNone, NoRoomToComplete}
use Rattle.seqtool_commands.proofs.complete.complete_streams.Goals as goal

-- the facts about a fault are those about an equal one
fault_is : (streams : List Stream) {f f2 : CompleteFault} → IsFaultOf top streams f → f ≡ f2
    → IsFaultOf top streams f2
fault_is streams known is = subst (IsFaultOf top streams) is known

pub returns-in-Err-Memory : goal.returns-in-Err-Memory
returns-in-Err-Memory g c =
    record { output = no_memory; owed = NoRoomToComplete; delivered = c.tell_fault.ensures }

pub returns-in-Err-Uncompleted : goal.returns-in-Err-Uncompleted
returns-in-Err-Uncompleted g c =
    record {
      output = uncompleted;
      owed = FindsNone (fault_is c.args.streams.now c.in-Err-Uncompleted.ensures.fault
          c.in-Err-Uncompleted.field-0-is);
      delivered = c.tell_line.ensures;
    }
