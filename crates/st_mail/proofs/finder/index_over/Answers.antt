-- The walk yields the list's messages in order, and each is pushed.
use Rattle.std.proofs.Common.{◌∙◌, arith}
use Rattle.std.proofs.lemmas.Iterator.Consumers.{YieldsList-from_first, YieldsList-turn}
use Rattle.std.proofs.lemmas.Iterator.Consumers.{YieldsList-end}
use Rattle.std.proofs.lemmas.List.{length_push, map_push}
use Rattle.st_arena.specs.Arena.{list_at}
use Rattle.st_mail.proofs.finder.index_over.Goals as goal

pub loop-message-init : goal.loop-message-init
loop-message-init c =
    let twice = rw c.in_ok-room.ensures.ok_part at c.checked_mul.ensures in
    (c.in_ok-index.ensures.empty, omega (arith, twice, c.len.ensures, c.in_ok-index.ensures.room))

pub push-requires-clause-room : goal.push-requires-clause-room
push-requires-clause-room c =
    let list = list_at c.args.lists.now c.args.list in
    let walked =
    YieldsList-from_first (λ m. m.now) (λ ms. ms) list
    (c.into_iter-message-iterator.ensures.into_iter_gives ∙ c.walk-message-items.ensures) in
    let turn =
    YieldsList-turn walked c.loop-message.yielded _ c.loop-message.yielded_by _ _ c.in-Some.message
    c.in-Some.is
    c.next.ensures.steps in
    omega (arith, turn.0, c.loop-message.invariant.1)

pub loop-message-preserved : goal.loop-message-preserved
loop-message-preserved c =
    let more = c.in_ok-push.ensures.pushed _ c.loop-message.invariant.0 in
    let longer = length_push c.loop-message.yielded c.in-Some.message in
    let all = map_push (λ m. m.now) c.loop-message.yielded c.in-Some.message in
    (rw all more, omega (arith, longer, c.in_ok-push.ensures.room, c.loop-message.invariant.1))

pub returns : goal.returns
returns c =
    let list = list_at c.args.lists.now c.args.list in
    let walked =
    YieldsList-from_first (λ m. m.now) (λ ms. ms) list
    (c.into_iter-message-iterator.ensures.into_iter_gives ∙ c.walk-message-items.ensures) in
    let end =
    YieldsList-end walked c.loop-message.yielded _ c.loop-message.yielded_by _ _ c.in-None.is
    c.next.ensures.steps in
    rw c.in_ok-new.ensures.ok (rw end.0 at c.loop-message.invariant.0)
