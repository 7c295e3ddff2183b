-- The text was written whole and the status is 0, or the writer failed and it is 4.
use Rattle.st_commands.specs.Command.{call}
use Rattle.st_commands.specs.Output.{bundled}
use Rattle.st_commands.proofs.Deliveries.{delivers}
use Rattle.st_commands.proofs.answer.tell_bundle.Goals as goal

pub returns : goal.returns
returns g c =
    delivers (call g.W.ByteSink _ _) (bundled c.args.streams.now c.args.acts.now)
    c.write_parts-sent.result _ c.write_parts-sent.ensures c.status_of.ensures
