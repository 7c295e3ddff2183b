-- Rows keep their lengths.
use Rattle.lack_search.specs.Links.{KeepsShape}
use Rattle.lack_search.proofs.links.Linker.link_hidden.Given as goal

abbrev pub invariant-loop-send : goal.invariant-loop-send
invariant-loop-send l = KeepsShape l.fn.self l.self
