-- Each turn so far has a sender, and the streams list no process of the giver's unlisted ones.
use Rattle.std.proofs.Common.{◌≡◌, vec_len}
use Rattle.lack_search.specs.Unlisted.{AreUnlisted}
use Rattle.lack_search.proofs.senders.take_turns.Given as goal

abbrev pub invariant-loop-turn : goal.invariant-loop-turn
invariant-loop-turn l = record {
  senders : vec_len l.senders ≡ l.turn-index;
  unlisted : AreUnlisted l.fn.giver.streams.now l.giver.unlisted.pids.items;
  streams : l.giver.streams ≡ l.fn.giver.streams;
}
