-- A send whose message carries a token stamped it, and so was reported.
use Rattle.st_core.proofs.FullReports as full
use Rattle.st_core.proofs.laws.full_reports_have_sends.Goals as goal

pub returns : goal.returns
returns c = full.have_sends
