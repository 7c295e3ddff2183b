-- Rows keep their lengths.
use Rattle.lack_search.specs.Links.{KeepsShape}
use Rattle.lack_search.proofs.links.Linker.link_lost.Given as goal

abbrev pub invariant-loop-ask : goal.invariant-loop-ask
invariant-loop-ask l = KeepsShape l.fn.self l.self
