-- Without an unlisted process the streams stay as they are; running out of memory has a line of its
-- own.
use Rattle.st_commands.specs.Output.{no_memory}
use Rattle.seqtool_commands.specs.Parts.{NoRoomToComplete}
use Rattle.seqtool_commands.proofs.Completions.{as_they_are}
use Rattle.seqtool_commands.proofs.complete.tell_acts.Goals as goal

pub tell_shown-requires-clause-more : goal.tell_shown-requires-clause-more
tell_shown-requires-clause-more g c =
    λ lives within. as_they_are c.args.streams.now c.args.completion.now.unlisted
    (rw c.unlisted-unlisted.ensures at c.if-unlisted-eq0.true)

pub returns-in-Err : goal.returns-in-Err
returns-in-Err g c = record {
  output = no_memory;
  owed = NoRoomToComplete;
  delivered = c.tell_fault.ensures;
}
