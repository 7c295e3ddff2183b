-- No place is past the last gap.
use Rattle.std.proofs.Common.{◌≡◌, ◌≤◌, vec_len}
use Rattle.lack_search.specs.Walk.{AreWithin}
use Rattle.lack_search.proofs.walk.walk_forth.Given as goal

abbrev pub invariant-loop-send : goal.invariant-loop-send
invariant-loop-send l = record {
  standing : l.standing.gap ≤ vec_len l.fn.ground.by_count;
  gaps : AreWithin (vec_len l.fn.ground.by_count) l.sends;
  tables : l.ground.by_count ≡ l.fn.ground.by_count;
}
