-- The noted counts and those of the remaining streams are all counts.
use Rattle.std.proofs.Common.{◌≡◌, ◌∷◌, ◌++◌, drop}
use Rattle.lack_needs.specs.Counts.{all_counts}
use Rattle.lack_needs.proofs.ranks.all_counts.Given as goal

abbrev pub invariant-loop-pid : goal.invariant-loop-pid
invariant-loop-pid l = l.counts.items ++ all_counts (drop l.pid-index l.streams) ≡ 0
    ∷ all_counts l.streams
