-- Each hidden send taken so far is at the first gap.
use Rattle.std.proofs.Common.{◌≡◌, vec_len}
use Rattle.lack_search.specs.Walk.{AreWithin}
use Rattle.lack_search.proofs.walk.StretchWalk.take_sends.Given as goal

abbrev pub invariant-loop-send : goal.invariant-loop-send
invariant-loop-send l = record {
  count : vec_len l.self.sends ≡ l.send-index;
  start : AreWithin 0 l.self.sends.items;
  ground : l.self.ground ≡ l.fn.self.ground;
  places : l.self.places ≡ l.fn.self.places;
}
