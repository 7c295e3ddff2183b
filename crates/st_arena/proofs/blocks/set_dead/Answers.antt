-- The count of the block's leaf changes by the same as the slot's mark.
use Rattle.std.proofs.Common.{◌+◌, ◌/◌, ◌<◌, arith, ap}
use Rattle.st_arena.specs.Tree.{count_at, wide}
use Rattle.st_arena.proofs.BlockLemmas.{leaf-some, counted-set}
use Rattle.st_arena.proofs.blocks.set_dead.Goals as goal

pub count_down-requires-clause-live : goal.count_down-requires-clause-live
count_down-requires-clause-live c =
    let block = c.args.slot / 64 in
    let inside : block < wide c.args.height =
    omega (arith, c.requires.in_range, c.requires.counted.len) in
    let leaf =
    leaf-some c.args.marks.now c.args.counts.now c.args.height c.requires.counted block c.args.slot
    inside (omega arith)
    (omega arith) c.requires.live in
    let at = ap (λ size. count_at c.args.counts.now (size + block)) c.requires.size in
    omega (arith, leaf, at)

pub returns-clause-counted : goal.returns-clause-counted
returns-clause-counted c =
    let block = c.args.slot / 64 in
    let size = c.requires.size in
    let inside : block < wide c.args.height =
    omega (arith, c.requires.in_range, c.requires.counted.len) in
    let old = c.args.counts.now in
    let new = c.count_down.new.counts in
    let new_at = ap (λ n. count_at new (n + block)) size in
    let old_at = ap (λ n. count_at old (n + block)) size in
    let changed = c.count_down.ensures.less in
    counted-set c.args.marks.now old new c.args.height block c.args.slot 1 0 c.requires.counted
    c.count_down.ensures.tree (omega arith) (omega arith) c.requires.in_range c.requires.live
    (omega arith)
    (omega (arith, changed.less, new_at, old_at))
    (λ other low apart. rw (← size) (changed.others other (omega (arith, size, low)) apart))
