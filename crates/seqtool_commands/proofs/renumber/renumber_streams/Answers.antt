-- The renumbered streams are written, and running out of memory has a line of its own.
use Rattle.st_commands.specs.Output.{no_memory}
use Rattle.lack_laws.specs.Renumbering.{renumbered_streams}
use Rattle.seqtool_commands.specs.Renumber.{streams_output}
use Rattle.seqtool_commands.specs.Parts.{Ranks, NoRoomToRenumber}
use Rattle.seqtool_commands.proofs.renumber.renumber_streams.Goals as goal

pub returns-in-Ok : goal.returns-in-Ok
returns-in-Ok g c =
    record {
      output = streams_output (renumbered_streams c.args.streams.now);
      owed = Ranks;
      delivered = rw c.in-Ok.ensures at c.tell_streams.ensures;
    }

pub returns-in-Err : goal.returns-in-Err
returns-in-Err g c = record {
  output = no_memory;
  owed = NoRoomToRenumber;
  delivered = c.tell_fault.ensures;
}
