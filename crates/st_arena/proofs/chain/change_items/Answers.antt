-- The slab has the node under the key, and its change makes one more changed item.
use Rattle.std.proofs.Common.{◌≡◌, ◌∙◌, ◌+◌, suc, refl, ap, arith}
use Rattle.std.specs.Fn.{FnReturnsAt}
use Rattle.slab.specs.Slab.{get}
use Rattle.st_arena.specs.Chain.{key_after}
use Rattle.st_arena.proofs.ChangeLemmas.{change_there, change_next, change_more}
use Rattle.st_arena.proofs.chain.change_items.Goals as goal

pub index-node-requires : goal.index-node-requires
index-node-requires g c =
    change_there (get c.args.nodes.now) (get c.loop.nodes) (get c.loop.nodes) c.args.ends
    c.requires.chained
    (FnReturnsAt g.F.Fn c.args.change.now) c.loop.counter c.loop.invariant.1 c.loop-test.true
    c.loop.key
    c.loop.invariant.0

pub loop-preserved : goal.loop-preserved
loop-preserved g c =
    let one_more : suc c.loop.counter ≡ c.loop.counter + 1 = omega arith in (
      change_next (get c.args.nodes.now) (get c.loop.nodes) (get c.loop.nodes) c.args.ends
          c.requires.chained
          (FnReturnsAt g.F.Fn c.args.change.now) c.loop.counter c.loop.invariant.1 c.loop-test.true
          c.loop.key
          c.loop.invariant.0
          c.index-node.result.now c.index-node.ensures
          ∙ ap (key_after (get c.args.nodes.now) c.args.ends.first) one_more,
      rw one_more at
          (change_more (get c.args.nodes.now) (get c.loop.nodes) (get c.set_value.new.nodes)
          c.args.ends
          c.requires.chained (FnReturnsAt g.F.Fn c.args.change.now) c.loop.counter
          c.loop.invariant.1
          c.loop-test.true c.loop.key c.loop.invariant.0
          c.index-node.result.now c.index-node.ensures c.change-value.result
          c.set_value.ensures.item
          (record { shown = _; shows = refl; says = record { met = c.change-value.ensures } })),
      c.set_value.ensures.len ∙ c.loop.invariant.2,
      c.set_value.ensures.capacity ∙ c.loop.invariant.3,
    )
