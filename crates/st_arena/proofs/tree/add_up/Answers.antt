-- Each step adds up one more node, from two children whose counts are right already.
use Rattle.std.proofs.Common.{◌≡◌, ◌+◌, ◌-◌, ◌<◌, ◌≤◌, ◌^◌, suc, length, ◌∙◌, arith, refl, ap}
use Rattle.std.proofs.lemmas.List.{drop-set-lt, length-set}
use Rattle.st_arena.specs.Tree.{count_at, AddsUpFrom}
use Rattle.st_arena.proofs.TreeLemmas.{wide-positive, children_bound, adds_more}
use Rattle.st_arena.proofs.tree.add_up.Goals as goal

pub loop-node-init : goal.loop-node-init
loop-node-init c =
    let some = wide-positive c.args.height in (
      λ node positive high inside. absurd (omega (arith, high, inside)),
      refl,
      omega (arith, c.requires.size, some),
      omega arith,
      refl,
    )

pub overflow_add-counts-in-loop-node-3 : goal.overflow_add-counts-in-loop-node-3
overflow_add-counts-in-loop-node-3 c =
    let counts = c.loop-node.counts in
    let size = c.args.size in
    let node = c.loop-node.node - 1 in
    let next : c.loop-node.node ≡ suc node = omega (arith, c.loop-node-test.true) in
    let len : length counts ≡ size + size = c.loop-node.invariant.1 ∙ c.requires.len in
    let adds : AddsUpFrom (count_at counts) (suc node) size = rw (← next) c.loop-node.invariant.0 in
    let bound =
    children_bound c.args.counts.now counts size c.args.height c.requires.size len c.requires.leaves
    c.loop-node.invariant.4 node adds (omega (arith, c.loop-node-test.true))
    (omega (arith, next, c.loop-node.invariant.3))
    c.requires.few in
    let right : node + node + 1 ≡ suc (node + node) = omega arith in
    let at = ap (count_at counts) right in
    let most : count_at counts (node + node) + count_at counts (node + node + 1) ≤ 2 ^ 60 =
    omega (arith, bound, at) in
    search (arith, most)

pub loop-node-preserved : goal.loop-node-preserved
loop-node-preserved c =
    let counts = c.loop-node.counts in
    let size = c.args.size in
    let node = c.loop-node.node - 1 in
    let next : c.loop-node.node ≡ suc node = omega (arith, c.loop-node-test.true) in
    let inside : node < size = omega (arith, next, c.loop-node.invariant.3) in
    let len : length counts ≡ size + size = c.loop-node.invariant.1 ∙ c.requires.len in
    let adds : AddsUpFrom (count_at counts) (suc node) size = rw (← next) c.loop-node.invariant.0 in
    let right : node + node + 1 ≡ suc (node + node) = omega arith in
    let sum = count_at counts (node + node) + count_at counts (node + node + 1) in
    let sums : sum ≡ count_at counts (node + node) + count_at counts (suc (node + node)) =
    ap (λ n. count_at counts (node + node) + count_at counts n) right in (
      adds_more c.args.counts.now counts size c.args.height c.requires.size len c.requires.leaves
          c.loop-node.invariant.4 node adds (omega (arith, c.loop-node-test.true)) inside sum sums,
      length-set counts node sum ∙ c.loop-node.invariant.1,
      omega (arith, c.loop-node-test.true),
      omega (arith, inside),
      drop-set-lt size counts node sum inside ∙ c.loop-node.invariant.4,
    )
