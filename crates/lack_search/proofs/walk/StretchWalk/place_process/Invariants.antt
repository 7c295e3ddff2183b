-- All hidden sends but those left have a place.
use Rattle.std.proofs.Common.{◌≡◌, ◌+◌, ◌≤◌, length, vec_len}
use Rattle.lack_search.proofs.walk.StretchWalk.place_process.Given as goal

abbrev pub invariant-loop-end : goal.invariant-loop-end
invariant-loop-end l = record {
  start : l.start ≤ l.end;
  count : vec_len l.self.places + length l.rest ≡ vec_len l.fn.self.places + length l.hidden;
}
