-- The fold over the remaining events, from the tallies so far, is that over all.
use Rattle.std.proofs.Common.{◌≡◌, [], drop, take}
use Rattle.lack_needs.specs.Completions.{marked_with}
use Rattle.lack_needs.specs.Flaws.{left_by}
use Rattle.lack_acts.specs.Tallies.{counted_from}
use Rattle.lack_acts.proofs.tallies.FlagTallies.count_process.Given as goal

abbrev pub invariant-loop-index : goal.invariant-loop-index
invariant-loop-index l = record {
  left : l.left ≡ left_by (take l.index l.events);
  counts : counted_from l.self (take l.index l.events) (drop l.index (marked_with l.events l.marks))
      ≡ counted_from l.fn.self [] (marked_with l.events l.marks);
}
