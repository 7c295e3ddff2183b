-- The nodes are written as lines; running out of memory has a line of its own.
use Rattle.st_commands.specs.Output.{no_memory}
use Rattle.st_commands.specs.Command.{call}
use Rattle.st_commands.proofs.ForCallers.{delivers}
use Rattle.seqtool_commands.specs.Why.{found}
use Rattle.seqtool_commands.specs.WhyParts.{OfFound, NoRoom}
use Rattle.seqtool_commands.proofs.why.tell_found.Goals as goal

pub returns-in-Ok : goal.returns-in-Ok
returns-in-Ok g c =
    let out = found c.args.trace.now c.args.question in
    record {
      output = out;
      owed = OfFound c.requires.there c.requires.ordered;
      delivered = delivers (call g.W.ByteSink _ _) out c.send_answer-sent.result _
          (rw (c.as_slice.ensures.value, c.in-Ok.ensures) at c.send_answer-sent.ensures)
          c.status_of.ensures;
    }

pub returns-in-Err : goal.returns-in-Err
returns-in-Err g c = record { output = no_memory; owed = NoRoom; delivered = c.tell_fault.ensures }
