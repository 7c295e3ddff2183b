-- The first slots are live, and the new leaves count them.
use Rattle.std.proofs.Common.{◌≡◌, ◌+◌, ◌-◌, ◌*◌, arith}
use Rattle.st_arena.specs.Tree.{wide}
use Rattle.st_arena.proofs.BlockLemmas.{counted-new}
use Rattle.st_arena.proofs.slots.Ranks.new.Goals as goal

pub invariant_of-result : goal.invariant_of-result
invariant_of-result c =
    let height = c.size_over-size.result.1 in
    let wide_is = c.size_over-size.ensures.wide in
    let slots = c.size_over-size.result.0 * 64 in
    let len : c.args.live + (slots - c.args.live) ≡ wide height * 64 =
    omega (arith, wide_is, c.requires.within, c.size_over-size.ensures.room) in
    let counted =
    counted-new c.in_ok-counts.counts.items height c.args.live (slots - c.args.live)
    c.in_ok-counts.ensures.tree
    (rw (← wide_is) c.in_ok-counts.ensures.leaves) len in
    (rw c.in_ok-marks.ensures counted, wide_is)
