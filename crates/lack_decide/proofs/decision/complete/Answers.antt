-- The finding is a completion, which acts show, or a reason that is final.
use Rattle.lack_decide.proofs.Answered.{answered}
use Rattle.lack_decide.proofs.decision.complete.Goals as goal

pub returns-in-Ok-clause-answer : goal.returns-in-Ok-clause-answer
returns-in-Ok-clause-answer g c =
    answered g.row.TOP c.args.streams.now _ c.open_reasons_are_final.ensures
    c.shown_exactly_where_nothing_is_needed.ensures c.needless_streams_are_shown.ensures
    c.shown_with_others_only_without_a_reason.ensures c.pids-pids.ensures.streams
    c.in-Ok.ensures.found
