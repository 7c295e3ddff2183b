-- By induction over the run, from how an act moves its actor's counts.
use Rattle.st_core.proofs.FullReports as full
use Rattle.st_core.proofs.laws.full_reports_tell_counts.Goals as goal

pub returns : goal.returns
returns c = full.tell_counts
