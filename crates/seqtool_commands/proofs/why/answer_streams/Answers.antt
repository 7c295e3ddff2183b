-- An event that isn't there has a line of its own.
use Rattle.std.proofs.Common.{sym, ◌∙◌}
use Rattle.seqtool_commands.specs.Why.{no_event}
use Rattle.seqtool_commands.specs.WhyParts.{OfNoEvent}
use Rattle.seqtool_commands.proofs.why.answer_streams.Goals as goal

pub returns-in-None : goal.returns-in-None
returns-in-None g c =
    record {
      output = no_event c.args.question;
      owed = OfNoEvent (sym c.event.ensures ∙ c.in-None.is);
      delivered = c.tell_line.ensures;
    }
