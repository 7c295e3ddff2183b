-- The text is written whole and the status is 0, or the writer fails and it is 4.
use Rattle.st_commands.specs.Command.{call}
use Rattle.st_commands.proofs.ForCallers.{delivers}
use Rattle.seqtool_commands.specs.Renumber.{streams_output}
use Rattle.seqtool_commands.proofs.answer.tell_streams.Goals as goal

pub returns : goal.returns
returns g c =
    delivers (call g.W.ByteSink _ _) (streams_output c.args.streams.now) c.write_parts-sent.result _
    c.write_parts-sent.ensures c.status_of.ensures
