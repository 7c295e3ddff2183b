-- Each untold event taken so far was added, and nothing told.
use Rattle.std.proofs.Common.{◌≡◌, ◌+◌, ◌-◌, ◌≤◌, length, max, vec_len}
use Rattle.lack_acts.specs.Told.{told_of}
use Rattle.lack_acts.proofs.insertion.add_untold.Given as goal

abbrev pub invariant-loop-place : goal.invariant-loop-place
invariant-loop-place l = record {
  told : told_of l.whole.items ≡ told_of l.fn.whole.items;
  count : vec_len l.whole ≡ vec_len l.fn.whole + (l.place - l.first);
  bounded : l.place ≤ max l.first (length l.untold);
}
