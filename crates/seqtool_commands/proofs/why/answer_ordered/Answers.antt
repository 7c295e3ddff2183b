-- Running out of memory has a line of its own.
use Rattle.st_commands.specs.Output.{no_memory}
use Rattle.seqtool_commands.specs.WhyParts.{NoRoom}
use Rattle.seqtool_commands.proofs.why.answer_ordered.Goals as goal

pub returns-in-Err : goal.returns-in-Err
returns-in-Err g c = record { output = no_memory; owed = NoRoom; delivered = c.tell_fault.ensures }
