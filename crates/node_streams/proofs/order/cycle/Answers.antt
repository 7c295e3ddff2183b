-- The walk follows an order, and each turn leaves fewer events. If no process can go on, no order
-- leads further.
use Rattle.std.proofs.Common.{◌∷◌, ◌∙◌, arith, ap, subst}
use Rattle.std.specs.List.{slice_get}
use Rattle.std.specs.Option.{IfNone, IfSome}
use Rattle.std.proofs.lemmas.Result.{IfOk-weaker}
use Rattle.st_core.specs.declared.types.Pid.{Pid}
use Rattle.st_core.specs.Streams.{events_of}
use Rattle.node_streams.specs.Order.{CanGo}
use Rattle.node_streams.specs.Tables.{done_in, GoesNext}
use Rattle.node_streams.proofs.Counting.{turns_more}
use Rattle.node_streams.proofs.Orders.{no_order}
use Rattle.node_streams.proofs.Turns.{no_more_left, one_fewer, same_walk}
use Rattle.node_streams.proofs.order.cycle.Goals as goal

pub go_far-requires-clause-way : goal.go_far-requires-clause-way
go_far-requires-clause-way c =
    let streams = c.args.streams.now in
    let way = c.loop-place.invariant in
    let goes = subst (λ o. IfSome o (λ x. GoesNext streams way.order x.0 x.1)) c.in-Some.is
    (c.next.ensures.free way.order way.at) in
    let at =
    same_walk streams way.order c.loop-place.walk c.next.new.self c.next.ensures.done way.at in
    record {
      order = goes.pid ∷ way.order;
      is_order = (goes.can, way.is_order);
      at = c.in_ok-go.ensures way.order goes.pid at goes.place;
    }

pub loop-place-smaller : goal.loop-place-smaller
loop-place-smaller c =
    let streams = c.args.streams.now in
    let way = c.loop-place.invariant in
    let goes = subst (λ o. IfSome o (λ x. GoesNext streams way.order x.0 x.1)) c.in-Some.is
    (c.next.ensures.free way.order way.at) in
    let p = goes.pid in
    let at =
    same_walk streams way.order c.loop-place.walk c.next.new.self c.next.ensures.done way.at in
    let after = c.in_ok-go.ensures way.order p at goes.place in
    let fewer = one_fewer (done_in streams c.loop-place.walk) (done_in streams c.go.new.self) p
    (λ q.
    let was = way.at.done q in
    let is = after.done q in
    let more = turns_more p way.order q in
    omega arith)
    streams c.in-Some.event
    (ap (slice_get (events_of streams p)) (way.at.done p) ∙ goes.next) in
    let far = no_more_left streams (done_in streams c.go.new.self)
    (done_in streams c.go_far.new.self) c.in_ok-go_far.ensures.more in
    omega arith

pub returns-clause-none : goal.returns-clause-none
returns-clause-none c =
    let streams = c.args.streams.now in
    let way = c.loop-place.invariant in
    let at =
    same_walk streams way.order c.loop-place.walk c.next.new.self c.next.ensures.done way.at in
    IfOk-weaker c.events_left.result _ _
    (λ v over empty. record { order = way.order; is_order = way.is_order; over = over empty })
    (c.events_left.ensures.none way.order at)

pub returns-clause-some : goal.returns-clause-some
returns-clause-some c =
    let streams = c.args.streams.now in
    let way = c.loop-place.invariant in
    let at =
    same_walk streams way.order c.loop-place.walk c.next.new.self c.next.ensures.done way.at in
    let stuck = subst (λ o. IfNone o ((p : Pid) → CanGo streams way.order p → ⊥)) c.in_default.is
    (c.next.ensures.none way.order way.at) in
    IfOk-weaker c.events_left.result _ _
    (λ v left some. let next = left some in no_order streams way.order stuck next.0 next.1 next.2)
    (c.events_left.ensures.some way.order at)
