-- The places so far, and the way from the next one, are the whole way.
use Rattle.std.proofs.Common.{◌≡◌, ◌++◌, ◌-◌, Some}
use Rattle.node_hops.specs.Way.{way}
use Rattle.node_hops.proofs.back.way.Given as goal

abbrev pub invariant-loop-depth : goal.invariant-loop-depth
invariant-loop-depth l =
    l.list.items ++ way l.hops l.reach.across (l.reach.most - l.depth) l.depth l.at
    ≡ way l.hops l.reach.across l.reach.most 0 (Some l.fn.place)
