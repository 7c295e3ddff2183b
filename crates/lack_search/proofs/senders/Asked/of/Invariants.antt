-- The list of remainders keeps its length.
use Rattle.std.proofs.Common.{◌≡◌, ◌*◌, ◌-◌, ◌^◌, length, min, vec_len}
use Rattle.lack_search.proofs.senders.Asked.of.Given as goal

abbrev pub invariant-loop-turn : goal.invariant-loop-turn
invariant-loop-turn l = vec_len l.asked.remainders ≡ min (length l.turns * 2) (2 ^ 64 - 1)
