-- The first unfounded event of a stream is the first of all if no stream before has one.
use Rattle.std.proofs.Common.{◌∙◌}
use Rattle.lack_needs.specs.Places.{flaw_place}
use Rattle.lack_needs.specs.Unfounded.{is_unfounded}
use Rattle.lack_needs.proofs.Flawed.{given, in_streams, none_given}
use Rattle.lack_needs.proofs.unfounded_stamps.first_unfounded.Goals as goal

pub returns-in-Some : goal.returns-in-Some
returns-in-Some c =
    let streams = c.args.streams.now in
    let test = is_unfounded streams in
    given (flaw_place test streams) _ c.pids-pid-items.ensures.streams.draft.rising _ _ _ _ _
    c.pids-pid-items.ensures.value c.loop-pid-test.true c.events.ensures.value
    (c.in-Some.ensures ∙ in_streams test streams _ _ c.events.ensures.value) c.loop-pid.invariant

pub loop-pid-preserved : goal.loop-pid-preserved
loop-pid-preserved c =
    let streams = c.args.streams.now in
    let test = is_unfounded streams in
    none_given (flaw_place test streams) _ c.pids-pid-items.ensures.streams.draft.rising _ _ _ _
    c.pids-pid-items.ensures.value c.loop-pid-test.true c.events.ensures.value
    (c.in_default.ensures ∙ in_streams test streams _ _ c.events.ensures.value) c.loop-pid.invariant
