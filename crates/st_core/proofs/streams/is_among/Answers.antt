-- A pid that has a place is among the pids, and one without a place isn't.
use Rattle.std.proofs.Common.{sym}
use Rattle.st_core.proofs.Collections.{is_among-found, is_among-missing}
use Rattle.st_core.proofs.streams.is_among.Goals as goal

pub returns-in-None : goal.returns-in-None
returns-in-None c = sym (is_among-missing c.args.pids.now c.args.pid c.in-None.ensures.missing)

pub returns-in-Some : goal.returns-in-Some
returns-in-Some c = sym (is_among-found c.args.pids.now c.args.pid _ c.in-Some.ensures.found)
