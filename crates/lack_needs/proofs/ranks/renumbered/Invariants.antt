-- The draft has the ranks of the streams taken so far.
use Rattle.std.proofs.Common.{◌≡◌, take}
use Rattle.lack_laws.specs.Renumbering.{rank, with_counts}
use Rattle.lack_needs.proofs.ranks.renumbered.Given as goal

abbrev pub invariant-loop-pid : goal.invariant-loop-pid
invariant-loop-pid l = l.draft ≡ with_counts (rank l.counts.items) (take l.pid-index l.streams)
