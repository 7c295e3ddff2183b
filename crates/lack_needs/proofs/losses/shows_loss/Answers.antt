-- In each run the stamp that one event tells of has a prev that only a lost receive can have left.
use Rattle.std.proofs.Common.{sym, ◌∙◌}
use Rattle.lack_needs.proofs.AllRuns.{lost_in_all}
use Rattle.lack_needs.proofs.losses.shows_loss.Goals as goal

pub returns-clause-lost : goal.returns-clause-lost
returns-clause-lost c = λ yes top. lost_in_all c.runs_have_full_completions.ensures
    c.with_silent_processes_streams_are_streams.ensures c.args.streams.now
    c.pids-is_streams.ensures.streams c.args.pid c.args.index c.args.count c.args.stamp
    c.args.other (sym c.are_shown.ensures ∙ yes) top
