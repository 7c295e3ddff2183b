-- The first process that saves something decides.
use Rattle.std.proofs.Common.{sym, ◌∙◌, ap}
use Rattle.lack_acts.specs.Strays.{may_save}
use Rattle.lack_acts.proofs.Counting.{none_left, saves_here, saves_later}
use Rattle.lack_acts.proofs.strays.may_save.Goals as goal

pub returns-then-missing_at_end-gt0 : goal.returns-then-missing_at_end-gt0
returns-then-missing_at_end-gt0 c =
    sym (saves_here c.args.streams.now c.args.marks.now _ c.loop-place.place _ _ _ _
    c.pids-pid-items.ensures.streams.draft.rising c.pids-pid-items.ensures.value
    c.loop-place-test.true c.events.ensures.value c.marks_at.ensures c.missing_at_end.ensures
    c.if-missing_at_end-gt0.true)
    ∙ c.loop-place.invariant

pub loop-place-preserved : goal.loop-place-preserved
loop-place-preserved c =
    saves_later c.args.streams.now c.args.marks.now _ c.loop-place.place _ _ _ _
    c.pids-pid-items.ensures.streams.draft.rising c.pids-pid-items.ensures.value
    c.loop-place-test.true c.events.ensures.value c.marks_at.ensures c.missing_at_end.ensures
    c.if-missing_at_end-gt0.false
    ∙ c.loop-place.invariant

pub returns : goal.returns
returns c =
    sym (ap may_save (none_left c.args.streams.now c.args.marks.now _ c.loop-place.place
    c.pids-pid-items.ensures.value c.loop-place-test.false))
    ∙ c.loop-place.invariant
