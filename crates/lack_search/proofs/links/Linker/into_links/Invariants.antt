-- Each row taken so far is as long as the links that it became.
use Rattle.std.proofs.Common.{◌≡◌, length, map}
use Rattle.lack_search.proofs.links.Linker.into_links.Given as goal

abbrev pub invariant-loop-row : goal.invariant-loop-row
invariant-loop-row l = map length l.links.items ≡ map (λ row. length row.items) l.yielded
