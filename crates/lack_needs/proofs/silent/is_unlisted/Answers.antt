-- A process is listed exactly if it has a place.
use Rattle.std.proofs.Common.{not, sym, ◌∙◌, ap}
use Rattle.st_core.specs.Run.{pids_of}
use Rattle.st_core.proofs.ForCallers.{is_among-found, is_among-missing, lists_among}
use Rattle.lack_needs.proofs.silent.is_unlisted.Goals as goal

pub returns-in-None : goal.returns-in-None
returns-in-None c = ap not (sym (lists_among c.args.streams.now c.args.pid
    ∙ is_among-missing (pids_of c.args.streams.now) c.args.pid c.in-None.ensures.missing))

pub returns-in-Some : goal.returns-in-Some
returns-in-Some c = ap not (sym (lists_among c.args.streams.now c.args.pid
    ∙ is_among-found (pids_of c.args.streams.now) c.args.pid _ c.in-Some.ensures.found))
