-- Bytes are the text of one bundle or have one fault; acts have one verdict and one run, and
-- streams one order and one finding.
use Rattle.st_commands.proofs.Outputs.{one_check, one_replay}
use Rattle.st_commands.proofs.AuditOutputs.{one_audit}
use Rattle.st_commands.proofs.ChartOutputs.{one_chart}
use Rattle.st_commands.proofs.laws.one_answer.Goals as goal

pub returns : goal.returns
returns c = record {
  check = one_check;
  audit = one_audit c.one_finding.ensures;
  replay = one_replay;
  chart = one_chart;
}
