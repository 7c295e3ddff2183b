-- A rank is the number of live slots in the blocks before the slot's, plus those before the slot
-- in its block.
use Rattle.std.proofs.Common.{◌≡◌, ◌+◌, ◌-◌, ◌*◌, ◌/◌, ◌≤◌, take, arith, ap}
use Rattle.std.specs.List.{sum}
use Rattle.st_arena.specs.Tree.{count_at, sums, wide}
use Rattle.st_arena.proofs.BlockLemmas.{sum-split, rank-most}
use Rattle.st_arena.proofs.blocks.live_before.Goals as goal

pub returns : goal.returns
returns c =
    let marks = c.args.marks.now in
    let block = c.args.slot / 64 in
    let inside : block ≤ wide c.args.height =
    omega (arith, c.requires.in_range, c.requires.counted.len) in
    let leaves = ap (λ n. sums (count_at c.args.counts.now) n block) c.requires.size in
    let front = c.requires.counted.blocks block inside in
    let split = sum-split marks (block * 64) (c.args.slot - block * 64) in
    let whole : block * 64 + (c.args.slot - block * 64) ≡ c.args.slot = omega arith in
    let at = ap (λ n. sum (take n marks)) whole in
    omega (arith, c.rank_in.ensures, c.count.ensures, leaves, front, split, at)

pub overflow_add-result : goal.overflow_add-result
overflow_add-result c =
    let marks = c.args.marks.now in
    let block = c.args.slot / 64 in
    let inside : block ≤ wide c.args.height =
    omega (arith, c.requires.in_range, c.requires.counted.len) in
    let leaves = ap (λ n. sums (count_at c.args.counts.now) n block) c.requires.size in
    let front = c.requires.counted.blocks block inside in
    let split = sum-split marks (block * 64) (c.args.slot - block * 64) in
    let whole : block * 64 + (c.args.slot - block * 64) ≡ c.args.slot = omega arith in
    let at = ap (λ n. sum (take n marks)) whole in
    let most = rank-most marks c.requires.counted.bits c.args.slot in
    let fits : c.rank_in.result + c.count.result ≤ c.args.slot =
    omega (arith, c.rank_in.ensures, c.count.ensures, leaves, front, split, at, most) in
    search (arith, fits)
