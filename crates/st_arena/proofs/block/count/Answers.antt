-- Each mark counts at most one live slot, and a slice has no more elements than a `usize` can say,
-- so the sum fits.
use Rattle.std.proofs.Common.{◌+◌, ◌≤◌, ◌<◌, length, arith}
use Rattle.st_arena.proofs.BlockLemmas.{rank-most}
use Rattle.st_arena.proofs.block.count.Goals as goal

pub overflow_add-live : goal.overflow_add-live
overflow_add-live c =
    let most = rank-most c.args.marks.now c.requires c.loop-mark.mark-index in
    let bit = c.requires c.loop-mark.mark-index in
    let inside : c.loop-mark.mark-index < length c.args.marks.now = c.loop-mark-test.true in
    let fits : c.loop-mark.live + c.from-live.result ≤ c.loop-mark.mark-index + 1 =
    omega (arith, most, bit, c.loop-mark.invariant, c.from-live.ensures) in
    search (arith, fits, inside)
