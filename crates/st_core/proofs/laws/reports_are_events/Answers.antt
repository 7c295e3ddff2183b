-- By induction over the acts, to the one that reports.
use Rattle.st_core.proofs.Reports as reports
use Rattle.st_core.proofs.laws.reports_are_events.Goals as goal

pub returns : goal.returns
returns c = reports.report_told
