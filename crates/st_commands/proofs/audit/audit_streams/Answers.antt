-- The auditor's finding is reported, or `fault memory` is written if memory ran out.
use Rattle.st_commands.specs.Output.{no_memory}
use Rattle.st_commands.specs.Audited.{report_output}
use Rattle.st_commands.specs.Parts.{Finds, NoRoomToAudit}
use Rattle.st_commands.proofs.audit.audit_streams.Goals as goal

pub returns-in-Ok : goal.returns-in-Ok
returns-in-Ok g c =
    record {
      output = report_output c.args.streams.now c.in-Ok.finding;
      owed =
          Finds c.in-Ok.finding c.in-Ok.ensures.found c.in-Ok.ensures.handed_on
          c.in-Ok.ensures.rules_out c.in-Ok.ensures.exact;
      delivered = c.tell_finding.ensures;
    }

pub returns-in-Err-Memory : goal.returns-in-Err-Memory
returns-in-Err-Memory g c =
    record { output = no_memory; owed = NoRoomToAudit; delivered = c.tell_fault.ensures }
