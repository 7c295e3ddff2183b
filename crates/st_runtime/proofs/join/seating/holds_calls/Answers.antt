-- The calls run out together with the log's own entries, or they differ.
use Rattle.std.proofs.Common.{arith}
use Rattle.st_runtime.proofs.Seated.{calls_end}
use Rattle.st_runtime.proofs.join.seating.holds_calls.Goals as goal

pub returns : goal.returns
returns c =
    rw c.len-2.ensures
    (calls_end c.args.mine.now.calls c.loop-place.next c.args.pid c.args.log.now.entries
    c.loop-place.place
    c.loop-place.invariant.0 (omega (arith, c.loop-place-test.false, c.len-place-end.ensures))
    c.loop-place.invariant.1)
