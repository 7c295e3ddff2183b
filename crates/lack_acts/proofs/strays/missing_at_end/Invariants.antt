-- The fold over the remaining events, from what is missing so far, is that over all.
use Rattle.std.proofs.Common.{◌≡◌, [], drop, take}
use Rattle.lack_needs.specs.Completions.{marked_with}
use Rattle.lack_needs.specs.Flaws.{left_by}
use Rattle.lack_acts.specs.Missing.{missing_at_end}
use Rattle.lack_acts.proofs.strays.missing_at_end.Given as goal

abbrev pub invariant-loop-index : goal.invariant-loop-index
invariant-loop-index l = record {
  left : l.left ≡ left_by (take l.index l.events);
  missing : missing_at_end l.missing (take l.index l.events)
      (drop l.index (marked_with l.events l.marks))
      ≡ missing_at_end 0 [] (marked_with l.events l.marks);
}
