-- A process has a place exactly if its pid is listed.
use Rattle.std.proofs.Common.{sym}
use Rattle.st_core.proofs.ForCallers.{is_among-found, is_among-missing}
use Rattle.st_core.specs.Run.{pids_of}
use Rattle.st_text.proofs.bundle.is_among.Goals as goal

pub returns-in-None : goal.returns-in-None
returns-in-None c = sym (is_among-missing (pids_of c.args.streams.now) c.args.pid
    c.in-None.ensures.missing)

pub returns-in-Some : goal.returns-in-Some
returns-in-Some c = sym (is_among-found (pids_of c.args.streams.now) c.args.pid _
    c.in-Some.ensures.found)
