-- Each node that the climb adds is in the tree, and it adds just what the next level up leaves
-- out.
use Rattle.std.proofs.Common.{◌≡◌, ◌+◌, ◌∙◌, suc, ◌-◌, ◌/◌, arith, ap}
use Rattle.st_arena.specs.Tree.{count_at, sums, wide}
use Rattle.st_arena.proofs.TreeLemmas.{within, rank-fits, sums-up}
use Rattle.st_arena.proofs.tree.rank_in.Goals as goal
use Rattle.st_arena.proofs.tree.rank_in.Goals.{then-place-eq1, else-place-eq1}

pub bounds-counts-start : goal.bounds-counts-start
bounds-counts-start c =
    let inside =
    within c.args.counts.now c.args.height c.requires.tree c.loop-level.level c.loop-level.start
    c.loop-level.place
    c.loop-level.invariant.3 c.loop-level.invariant.1 c.loop-level.invariant.2 in
    omega (arith, inside)

pub overflow_add-sum : goal.overflow_add-sum
overflow_add-sum c =
    let inside =
    within c.args.counts.now c.args.height c.requires.tree c.loop-level.level c.loop-level.start
    c.loop-level.place
    c.loop-level.invariant.3 c.loop-level.invariant.1 c.loop-level.invariant.2 in
    search (arith, inside)

pub offset_bounds-counts-start : goal.offset_bounds-counts-start
offset_bounds-counts-start c =
    let inside =
    within c.args.counts.now c.args.height c.requires.tree c.loop-level.level c.loop-level.start
    c.loop-level.place
    c.loop-level.invariant.3 c.loop-level.invariant.1 c.loop-level.invariant.2 in
    search (arith, inside)

pub overflow_add-sum-then-place-eq1 : goal.overflow_add-sum-then-place-eq1
overflow_add-sum-then-place-eq1 c =
    let most =
    rank-fits c.args.counts.now c.args.height c.requires.tree c.args.size c.args.block
    c.loop-level.sum
    c.loop-level.start c.loop-level.place c.requires.size c.requires.in_range
    c.loop-level.invariant.0
    (omega (arith, c.if-place-eq1.true)) in
    omega (arith, most, c.requires.in_range, c.requires.size, c.requires.tree.few)

pub loop-level-preserved : goal.loop-level-preserved
loop-level-preserved c =
    let level = c.loop-level.level - 1 in
    let half = c.loop-level.place / 2 in
    let up : c.loop-level.level ≡ suc level = omega arith in
    let start_is : c.loop-level.start ≡ wide level + wide level =
    c.loop-level.invariant.1 ∙ ap wide up in
    let above : c.loop-level.start / 2 ≡ wide level = omega (arith, start_is) in
    let sum =
    sums-up c.args.counts.now c.args.height c.requires.tree level c.loop-level.start half
    (omega arith) start_is
    (omega arith) in
    let same : sums (count_at c.args.counts.now) (c.loop-level.start / 2) half
    ≡ sums (count_at c.args.counts.now) c.loop-level.start (half + half) =
    ap (λ s. sums (count_at c.args.counts.now) s half) above ∙ sum in (
      elim c.if-place-eq1.branch [
        | then-place-eq1 w ↦
            let odd : c.loop-level.place ≡ suc (half + half) = omega (arith, w.if-place-eq1.true) in
            let node : c.loop-level.start + c.loop-level.place - 1 ≡ c.loop-level.start +
            (half + half) = omega (arith, odd) in
            let at = ap (count_at c.args.counts.now) node in
            let split : sums (count_at c.args.counts.now) c.loop-level.start c.loop-level.place
            ≡ sums (count_at c.args.counts.now) c.loop-level.start (half + half)
            + count_at c.args.counts.now (c.loop-level.start + (half + half)) =
            ap (sums (count_at c.args.counts.now) c.loop-level.start) odd in
            omega (arith, w.sum-is, same, at, split, c.loop-level.invariant.0)
        | else-place-eq1 w ↦
            let even : c.loop-level.place ≡ half + half = omega (arith, w.if-place-eq1.false) in
            let split : sums (count_at c.args.counts.now) c.loop-level.start c.loop-level.place
            ≡ sums (count_at c.args.counts.now) c.loop-level.start (half + half) =
            ap (sums (count_at c.args.counts.now) c.loop-level.start) even in
            omega (arith, w.sum-is, same, split, c.loop-level.invariant.0)
      ],
      above,
      omega (arith, start_is),
      omega arith,
    )
