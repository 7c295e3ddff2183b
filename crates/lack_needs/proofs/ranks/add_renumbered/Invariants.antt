-- The draft ends in the process with the ranks of the events taken so far.
use Rattle.std.proofs.Common.{◌≡◌, ◌∷◌, [], ◌++◌, take}
use Rattle.lack_needs.specs.Counts.{ranked_stream}
use Rattle.lack_needs.proofs.ranks.add_renumbered.Given as goal

abbrev pub invariant-loop-event : goal.invariant-loop-event
invariant-loop-event l =
    l.draft ≡ l.fn.draft ++ ranked_stream l.fn.counts l.fn.pid (take l.event-index l.fn.events) ∷ []
