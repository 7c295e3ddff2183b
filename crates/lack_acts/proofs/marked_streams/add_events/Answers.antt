-- The process is last, so each event goes to the end of the draft.
use Rattle.std.proofs.Common.{false, get_or, rules}
use Rattle.st_pair.proofs.ForCallers.{at_get_or, blank}
use Rattle.lack_acts.specs.declared.marked_streams.MarkedEvent.{MarkedEvent}
use Rattle.lack_acts.proofs.Telling.{event_put}
use Rattle.lack_acts.proofs.marked_streams.add_events.Goals as goal

abbrev none : MarkedEvent
none = record { event = blank; is_told = false }

pub loop-one-preserved : goal.loop-one-preserved
loop-one-preserved c =
    let ms = c.args.events.now in
    let i = c.loop-one.one-index in
    event_put c.args.draft.now c.loop-one.draft _ c.args.pid ms i (get_or ms i none)
    c.in-Ok.ensures.rising (at_get_or ms i none c.loop-one-test.true) c.loop-one.invariant
    (search rules)
