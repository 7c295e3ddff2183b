-- Rows keep their lengths.
use Rattle.std.proofs.Common.{◌≡◌}
use Rattle.lack_search.specs.Links.{event_counts, lengths_of}
use Rattle.lack_search.proofs.links.links_of.Given as goal

abbrev pub invariant-loop-pid : goal.invariant-loop-pid
invariant-loop-pid l = lengths_of l.linker ≡ event_counts l.whole
