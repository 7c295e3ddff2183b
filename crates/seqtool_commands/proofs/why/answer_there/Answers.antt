-- Events without an order have a line of their own, and so has running out of memory.
use Rattle.st_commands.specs.Output.{no_memory}
use Rattle.seqtool_commands.specs.Why.{no_order}
use Rattle.seqtool_commands.specs.WhyParts.{NoRoom, OfNoOrder}
use Rattle.seqtool_commands.proofs.why.answer_there.Goals as goal

pub returns-in-Ok-false : goal.returns-in-Ok-false
returns-in-Ok-false g c =
    record {
      output = no_order;
      owed = OfNoOrder c.requires (c.in-Ok-false.ensures.no c.in-Ok-false.field-0-test);
      delivered = c.tell_line.ensures;
    }

pub returns-in-Err : goal.returns-in-Err
returns-in-Err g c = record { output = no_memory; owed = NoRoom; delivered = c.tell_fault.ensures }
