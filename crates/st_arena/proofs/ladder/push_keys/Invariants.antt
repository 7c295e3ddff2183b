-- The keys added are those of the nodes passed, and `key` is that of the next node.
use Rattle.std.proofs.Common.{◌≡◌, map, Some}
use Rattle.slab.specs.Slab.{get}
use Rattle.st_arena.specs.Chain.{keys, key_after}
use Rattle.st_arena.proofs.ladder.push_keys.Given as goal

abbrev pub invariant-loop : goal.invariant-loop
invariant-loop g l =
    (l.key ≡ key_after (get l.nodes) l.fn.ends.first l.counter)
    × (l.slots.items ≡ map (λ key. Some key) (keys (get l.nodes) l.counter l.fn.ends.first))
