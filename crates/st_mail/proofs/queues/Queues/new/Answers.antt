-- An empty queue needs no index.
use Rattle.std.proofs.Common.{◌≡◌, ◌+◌, suc, [], arith}
use Rattle.st_mail.proofs.Finders.{found_more}
use Rattle.st_mail.proofs.queues.Queues.new.Goals as goal

pub loop-init : goal.loop-init
loop-init c = rw c.in_ok-finders.ensures.items tt

pub loop-preserved : goal.loop-preserved
loop-preserved c =
    let next : c.loop.counter + 1 ≡ suc c.loop.counter = omega arith in
    let more =
    found_more c.loop.finders.items c.loop.counter c.new-in-loop.result c.loop.invariant
    (c.new-in-loop.ensures []) in
    rw (c.in_ok-push.ensures.items, next) more

pub invariant_of-result : goal.invariant_of-result
invariant_of-result c =
    let all : c.loop.counter ≡ c.args.count =
    omega (arith, c.loop-test.false, c.loop.auto.counter-end) in
    rw (c.in_ok-lists.ensures.empty, ← all) c.loop.invariant
