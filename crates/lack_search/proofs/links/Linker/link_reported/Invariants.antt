-- Rows keep their lengths.
use Rattle.lack_search.specs.Links.{KeepsShape}
use Rattle.lack_search.proofs.links.Linker.link_reported.Given as goal

abbrev pub invariant-loop-index : goal.invariant-loop-index
invariant-loop-index l = KeepsShape l.fn.self l.self
