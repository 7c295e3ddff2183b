-- Rows keep their lengths.
use Rattle.lack_search.specs.Links.{KeepsShape}
use Rattle.lack_search.proofs.links.Linker.link_invented.Given as goal

abbrev pub invariant-loop-invention : goal.invariant-loop-invention
invariant-loop-invention l = KeepsShape l.fn.self l.self
