-- The first flaw of a stream is the first of all if no stream before has one.
use Rattle.std.proofs.Common.{◌∙◌}
use Rattle.lack_needs.specs.Places.{flaw_place}
use Rattle.lack_needs.specs.Flaws.{test_of}
use Rattle.lack_needs.proofs.Flawed.{given, in_streams, none_given}
use Rattle.lack_needs.proofs.first_flaws.first_flaw.Goals as goal

pub returns-in-Some : goal.returns-in-Some
returns-in-Some c =
    let test = test_of c.args.flaw in
    given (flaw_place test c.args.streams.now) _ c.pids-pid-items.ensures.streams.draft.rising _ _ _
    _ _
    c.pids-pid-items.ensures.value c.loop-pid-test.true c.events.ensures.value
    (c.in-Some.ensures ∙ in_streams test c.args.streams.now _ _ c.events.ensures.value)
    c.loop-pid.invariant

pub loop-pid-preserved : goal.loop-pid-preserved
loop-pid-preserved c =
    let test = test_of c.args.flaw in
    none_given (flaw_place test c.args.streams.now) _ c.pids-pid-items.ensures.streams.draft.rising
    _ _ _ _
    c.pids-pid-items.ensures.value c.loop-pid-test.true c.events.ensures.value
    (c.in_default.ensures ∙ in_streams test c.args.streams.now _ _ c.events.ensures.value)
    c.loop-pid.invariant
