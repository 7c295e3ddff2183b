-- A process's number is at its place, and a process that isn't listed has no events.
use Rattle.std.proofs.Common.{sym, ◌∙◌}
use Rattle.st_core.specs.Run.{pids_of}
use Rattle.node_streams.proofs.Places.{number_here, number_none}
use Rattle.node_streams.proofs.walk.Walk.done_of.Goals as goal

pub returns-in-None : goal.returns-in-None
returns-in-None c =
    sym (number_none (pids_of c.args.streams.now) c.args.self.now.done.items c.args.pid
    c.in-None.ensures.missing)

pub returns-in-Some : goal.returns-in-Some
returns-in-Some c =
    c.done_at.ensures
    ∙ sym (number_here (pids_of c.args.streams.now) c.args.self.now.done.items c.in-Some.place
    c.args.pid c.requires.draft.rising c.in-Some.ensures.found)
