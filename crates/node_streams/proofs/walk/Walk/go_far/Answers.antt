-- Each turn is of a process that can go on.
use Rattle.std.proofs.Common.{IfSome, ◌∷◌, refl, sym, ◌∙◌, arith, ap, subst}
use Rattle.std.specs.List.{slice_get}
use Rattle.std.proofs.lemmas.Option.{slice_get_read}
use Rattle.st_core.specs.Streams.{events_of}
use Rattle.node_streams.specs.Tables.{AreOf, done_in, GoesNext}
use Rattle.node_streams.proofs.Counting.{turns_more}
use Rattle.node_streams.proofs.Turns.{one_fewer}
use Rattle.node_streams.proofs.walk.Walk.go_far.Goals as goal

pub loop-event-smaller : goal.loop-event-smaller
loop-event-smaller c =
    let streams = c.args.streams.now in
    let q = c.in-Some.field-0.now in
    let look = c.in-Some.ensures.lookup in
    let here = sym (ap (λ ps. slice_get ps c.args.place) c.pids.ensures.value)
    ∙ slice_get_read c.pids.result.now _ c.args.place q refl look.3.0 look.1 in
    let are : AreOf streams c.args.place q c.events-events.result.now
    c.taken_of-own.result.now = record {
      place = here;
      own = c.events-events.ensures.value;
      sends = c.taken_of-own.ensures streams q c.requires.sound.draft.rising c.requires.taken here;
    } in
    let way = c.loop-event.invariant.way in
    let goes = subst (λ o. IfSome o (GoesNext streams way.order c.args.place))
    c.in-Some-free_event_of.is (c.free_event_of.ensures.free way.order q way.at are) in
    let p = goes.pid in
    let after = c.in_ok-go.ensures way.order p way.at goes.place in
    one_fewer (done_in streams c.loop-event.self) (done_in streams c.go.new.self) p
    (λ r.
    let was = way.at.done r in
    let is = after.done r in
    let more = turns_more p way.order r in
    omega arith)
    streams c.in-Some-free_event_of.event
    (ap (slice_get (events_of streams p)) (way.at.done p) ∙ goes.next)

pub loop-event-preserved : goal.loop-event-preserved
loop-event-preserved c =
    let streams = c.args.streams.now in
    let q = c.in-Some.field-0.now in
    let look = c.in-Some.ensures.lookup in
    let here = sym (ap (λ ps. slice_get ps c.args.place) c.pids.ensures.value)
    ∙ slice_get_read c.pids.result.now _ c.args.place q refl look.3.0 look.1 in
    let are : AreOf streams c.args.place q c.events-events.result.now
    c.taken_of-own.result.now = record {
      place = here;
      own = c.events-events.ensures.value;
      sends = c.taken_of-own.ensures streams q c.requires.sound.draft.rising c.requires.taken here;
    } in
    let way = c.loop-event.invariant.way in
    let goes = subst (λ o. IfSome o (GoesNext streams way.order c.args.place))
    c.in-Some-free_event_of.is (c.free_event_of.ensures.free way.order q way.at are) in
    let p = goes.pid in
    let after = c.in_ok-go.ensures way.order p way.at goes.place in
    record {
      way = record {
        order = p ∷ way.order;
        is_order = (goes.can, way.is_order);
        at = after;
      };
      more = λ r.
          let old = c.loop-event.invariant.more r in
          let was = way.at.done r in
          let is = after.done r in
          let more = turns_more p way.order r in
          omega arith;
    }
