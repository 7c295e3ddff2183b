-- The slab has each node of the walk, and each names the node before it.
use Rattle.std.proofs.Common.{◌≡◌, ◌∙◌, ◌-◌, suc, sym, ap, arith}
use Rattle.slab.specs.Slab.{get}
use Rattle.st_arena.specs.Chain.{key_after, previous_key}
use Rattle.st_arena.proofs.ChainLemmas.{held_after, last_after, previous_after}
use Rattle.st_arena.proofs.chain.key_from_last.Goals as goal

pub loop-at-init : goal.loop-at-init
loop-at-init g c = (
  last_after _ _ c.requires.chained (c.args.ends.len - 1) (omega arith),
  omega arith,
  omega arith,
)

pub index-requires : goal.index-requires
index-requires g c = rw c.loop-at.invariant.0
    (held_after _ _ c.requires.chained c.loop-at.at c.loop-at.invariant.2)

pub loop-at-preserved : goal.loop-at-preserved
loop-at-preserved g c =
    let before = c.loop-at.at - 1 in
    let here : c.loop-at.at ≡ suc before = omega arith in (
      sym (ap previous_key c.index.ensures)
          ∙ ap (λ k. previous_key (get c.args.nodes.now k))
          (c.loop-at.invariant.0 ∙ ap (key_after (get c.args.nodes.now) c.args.ends.first) here)
          ∙ previous_after _ _ c.requires.chained before (omega arith),
      omega arith,
      omega arith,
    )
