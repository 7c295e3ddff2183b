-- The first place that was answered true is one that was, and a chain has as many items as its
-- ends say.
use Rattle.slab.specs.Slab.{get}
use Rattle.st_arena.proofs.ChainLemmas.{length-values_of}
use Rattle.st_arena.proofs.chain.any_answered.Goals as goal

pub first_answered-requires-clause-whole : goal.first_answered-requires-clause-whole
first_answered-requires-clause-whole g c =
    length-values_of (get c.args.nodes.now) c.args.ends c.requires.chained.key
    c.requires.chained.chain
