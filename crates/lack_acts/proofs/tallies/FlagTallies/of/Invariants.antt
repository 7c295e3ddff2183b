-- The fold over the remaining processes, from the tallies so far, is that over all.
use Rattle.std.proofs.Common.{◌≡◌, drop}
use Rattle.lack_needs.specs.Completions.{wholes_with}
use Rattle.lack_acts.specs.Tallies.{counted_whole, no_flags}
use Rattle.lack_acts.proofs.tallies.FlagTallies.of.Given as goal

abbrev pub invariant-loop-process : goal.invariant-loop-process
invariant-loop-process l = counted_whole l.tallies
    (drop l.process (wholes_with l.fn.streams l.fn.marks))
    ≡ counted_whole no_flags (wholes_with l.fn.streams l.fn.marks)
