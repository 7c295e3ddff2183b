-- No last place is past the last gap.
use Rattle.std.proofs.Common.{◌≡◌, ◌≤◌, vec_len}
use Rattle.lack_search.specs.Walk.{AreWithin}
use Rattle.lack_search.proofs.walk.walk_back.Given as goal

abbrev pub invariant-loop-number : goal.invariant-loop-number
invariant-loop-number l = record {
  limit : l.limit ≤ vec_len l.fn.ground.by_count;
  gaps : AreWithin (vec_len l.fn.ground.by_count) l.sends;
  tables : l.ground.by_count ≡ l.fn.ground.by_count;
}
