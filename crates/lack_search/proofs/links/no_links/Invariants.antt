-- Each row so far is as long as its process has events.
use Rattle.std.proofs.Common.{◌≡◌, length, map, take}
use Rattle.lack_search.specs.Links.{event_counts}
use Rattle.lack_search.proofs.links.no_links.Given as goal

abbrev pub invariant-loop-pid : goal.invariant-loop-pid
invariant-loop-pid l = map (λ row. length row.items) l.rows.items
    ≡ event_counts (take l.pid-index l.whole)
