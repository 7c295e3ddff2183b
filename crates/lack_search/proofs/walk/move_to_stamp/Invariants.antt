-- No send is past the last gap.
use Rattle.std.proofs.Common.{vec_len}
use Rattle.lack_search.specs.Walk.{AreWithin}
use Rattle.lack_search.proofs.walk.move_to_stamp.Given as goal

abbrev pub invariant-loop-number : goal.invariant-loop-number
invariant-loop-number l = AreWithin (vec_len l.ground.by_count) l.sends
