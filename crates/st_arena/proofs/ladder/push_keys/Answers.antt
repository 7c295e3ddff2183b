-- The slab has each node of the walk, and its key is the next one in order.
use Rattle.std.proofs.Common.{◌≡◌, ◌+◌, ◌++◌, ◌∷◌, [], suc, map, Some, arith, ap, sym, ◌∙◌}
use Rattle.slab.specs.Slab.{get}
use Rattle.st_arena.specs.Chain.{keys, key_after, next_key}
use Rattle.st_arena.proofs.ChainLemmas.{held_after}
use Rattle.st_arena.proofs.LadderLemmas.{map_Some-push}
use Rattle.st_arena.proofs.ladder.push_keys.Goals as goal

pub index-requires : goal.index-requires
index-requires g c =
    rw c.loop.invariant.0 (held_after _ _ c.requires.chained c.loop.counter
    (omega (arith, c.loop-test.true)))

pub loop-preserved : goal.loop-preserved
loop-preserved g c =
    let slots = get c.args.nodes.now in
    let first = c.args.ends.first in
    let next : c.loop.counter + 1 ≡ suc c.loop.counter = omega arith in
    let items : c.push.new.self.items ≡ c.loop.slots.items ++ Some c.loop.key ∷ [] =
    c.in_ok-push.ensures.items in (
      sym (ap next_key c.index.ensures)
          ∙ ap (λ k. next_key (slots k)) c.loop.invariant.0
          ∙ ap (key_after slots first) (sym next),
      items
          ∙ (λ i. c.loop.invariant.1 i ++ Some (c.loop.invariant.0 i) ∷ [])
          ∙ map_Some-push (keys slots c.loop.counter first) (key_after slots first c.loop.counter)
          ∙ ap (λ n. map (λ key. Some key) (keys slots n first)) (sym next),
    )
