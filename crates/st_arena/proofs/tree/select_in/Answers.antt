-- The child on the way down is in the tree, and holds the slot wanted.
use Rattle.std.proofs.Common.{◌≡◌, ◌+◌, ◌∙◌, suc, arith, sym, ap}
use Rattle.st_arena.specs.Tree.{count_at, sums, wide}
use Rattle.st_arena.proofs.TreeLemmas.{within, down}
use Rattle.st_arena.proofs.tree.select_in.Goals as goal
use Rattle.st_arena.proofs.tree.select_in.Goals.{then-left-lesser, else-left-lesser}

pub bounds-counts-start : goal.bounds-counts-start
bounds-counts-start c =
    let two : c.loop-level.start + c.loop-level.start ≡ wide (suc c.loop-level.level) =
    ap (λ s. s + s) c.loop-level.invariant.2 in
    within c.args.counts.now c.args.height c.requires.tree (suc c.loop-level.level)
    (c.loop-level.start + c.loop-level.start)
    (c.loop-level.place + c.loop-level.place) (omega arith) two
    (omega (arith, c.loop-level.invariant.3))

pub loop-level-preserved : goal.loop-level-preserved
loop-level-preserved c =
    let f = count_at c.args.counts.now in
    let start = c.loop-level.start in
    let place = c.loop-level.place in
    let next : c.loop-level.level + 1 ≡ suc c.loop-level.level = omega arith in
    let two : start + start ≡ wide (c.loop-level.level + 1) =
    ap (λ s. s + s) c.loop-level.invariant.2 ∙ sym (ap wide next) in
    let step =
    down c.args.counts.now c.args.height c.requires.tree c.loop-level.level start place
    (omega arith)
    c.loop-level.invariant.2 c.loop-level.invariant.3 in
    elim c.if-left-lesser.branch [
      | then-left-lesser w ↦
          let one : c.if-left-lesser.place ≡ suc (place + place) = omega (arith, w.place-is) in
          let total : sums f (start + start) c.if-left-lesser.place
          ≡ sums f (start + start) (place + place) + f ((start + start) + (place + place)) =
          ap (sums f (start + start)) one in
          let node : (start + start) + c.if-left-lesser.place ≡ suc
          ((start + start) + (place + place)) = omega (arith, one) in
          let at = ap f node in (
            omega (arith, w.left-is, w.if-left-lesser.true, total, step, c.loop-level.invariant.0),
            omega (arith, w.left-is, w.if-left-lesser.true, at, step, c.loop-level.invariant.1),
            two,
            omega (arith, one, c.loop-level.invariant.3),
            omega arith,
          )
      | else-left-lesser w ↦
          let total : sums f (start + start) c.if-left-lesser.place
          ≡ sums f (start + start) (place + place) =
          ap (sums f (start + start)) w.place-is in
          let at : f ((start + start) + c.if-left-lesser.place)
          ≡ f ((start + start) + (place + place)) =
          ap (λ p. f ((start + start) + p)) w.place-is in (
            omega (arith, w.left-is, total, step, c.loop-level.invariant.0),
            omega (arith, w.left-is, w.if-left-lesser.false, at),
            two,
            omega (arith, w.place-is, c.loop-level.invariant.3),
            omega arith,
          )
    ]
