-- The ladder holds the key of the node at each place.
use Rattle.std.proofs.Common.{◌∙◌, sym}
use Rattle.slab.specs.Slab.{get}
use Rattle.st_arena.proofs.LadderLemmas.{ladder_key}
use Rattle.st_arena.proofs.ladder.find_key.Goals as goal
use Rattle.st_arena.proofs.ladder.find_key.Goals.{in-Some, in-None}

pub returns-in-Some-found : goal.returns-in-Some-found
returns-in-Some-found g c =
    elim c.match-get.branch [
      | in-Some w ↦
          ladder_key (get c.args.nodes.now) c.args.ends c.args.place c.in-Some-found.key
          w.in-Some.ladder.now _
          c.requires.ladder (sym w.in-Some.ensures.value) c.requires.in_range
          (sym w.key_at-found.ensures ∙ sym w.found-is ∙ c.in-Some-found.is)
      | in-None w ↦ absurd cc
    ]
