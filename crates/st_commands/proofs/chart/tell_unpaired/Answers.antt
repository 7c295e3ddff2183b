-- A reason of pairing is reported, or `fault memory` is written if memory ran out.
use Rattle.std.proofs.Common.{sym, ◌∙◌}
use Rattle.st_commands.specs.Output.{no_memory}
use Rattle.st_commands.specs.Audited.{report_output}
use Rattle.st_commands.specs.Parts.{NoRoomToOrder}
use Rattle.st_commands.proofs.Charts.{unpaired}
use Rattle.st_commands.proofs.chart.tell_unpaired.Goals as goal

pub returns-in-Some : goal.returns-in-Some
returns-in-Some g c =
    record {
      output = report_output c.args.streams.now c.in-Some.finding;
      owed = unpaired c.args.streams.now c.args.label c.args.fault c.in-Some.finding c.requires
          (sym c.unfit_by.ensures ∙ c.in-Some.is);
      delivered = c.tell_finding.ensures;
    }

pub returns-in-None : goal.returns-in-None
returns-in-None g c =
    record { output = no_memory; owed = NoRoomToOrder; delivered = c.tell_fault.ensures }
