-- By induction over the acts, from the front of the stream.
use Rattle.st_core.proofs.Reports as reports
use Rattle.st_core.proofs.laws.events_are_reports.Goals as goal

pub returns : goal.returns
returns c = reports.event_reported
