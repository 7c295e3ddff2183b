-- The block has more live slots than `left`, so one of them has that rank in the block.
use Rattle.std.proofs.Common.{◌≡◌, ◌+◌, ◌-◌, ◌*◌, ◌<◌, ◌≤◌, take, drop, arith, sym, ap}
use Rattle.std.proofs.lemmas.List.{take-take}
use Rattle.std.specs.List.{sum}
use Rattle.st_arena.specs.Tree.{count_at, sums, wide}
use Rattle.st_arena.proofs.BlockLemmas.{sum-split, block-sum, front-short, live-total}
use Rattle.st_arena.proofs.blocks.live_slot.Goals as goal

pub select_in-block-requires-clause-there : goal.select_in-block-requires-clause-there
select_in-block-requires-clause-there c =
    let total = live-total c.args.marks.now c.args.counts.now c.args.height c.requires.counted in
    omega (arith, total, c.requires.there)

pub place_of-requires-clause-there : goal.place_of-requires-clause-there
place_of-requires-clause-there c =
    let block = c.select_in-block.result.0 in
    let inside : block < wide c.args.height =
    omega (arith, c.select_in-block.ensures.in_range, c.requires.size) in
    let holds = block-sum c.args.marks.now c.args.counts.now c.args.height c.requires.counted block
    inside in
    let leaf = ap (λ n. count_at c.args.counts.now (n + block)) c.requires.size in
    let width : block * 64 + 64 - block * 64 ≡ 64 = omega arith in
    let cut = ap (λ n. sum (take n (drop (block * 64) c.args.marks.now))) width in
    omega (arith, holds, leaf, cut, c.select_in-block.ensures.inside)

pub returns-clause-rank : goal.returns-clause-rank
returns-clause-rank c =
    let marks = c.args.marks.now in
    let block = c.select_in-block.result.0 in
    let inside : block ≤ wide c.args.height =
    omega (arith, c.select_in-block.ensures.in_range, c.requires.size) in
    let leaves = ap (λ n. sums (count_at c.args.counts.now) n block) c.requires.size in
    let front = c.requires.counted.blocks block inside in
    let split = sum-split marks (block * 64) c.place_of.result in
    let width : block * 64 + 64 - block * 64 ≡ 64 = omega arith in
    let cut = ap (λ n. take n (drop (block * 64) marks)) width in
    let place = c.place_of.result in
    let short = front-short (drop (block * 64) marks) (block * 64 + 64 - block * 64) in
    let there : place ≤ 64 = omega (arith, width, short, c.place_of.ensures.in_range) in
    let same = ap sum (take-take place 64 (drop (block * 64) marks) there) in
    let rank = ap (λ l. sum (take place l)) (sym cut) in
    omega (
      arith,
      leaves,
      front,
      split,
      same,
      rank,
      c.place_of.ensures.rank,
      c.select_in-block.ensures.before,
    )
