-- Each send taken so far has a place.
use Rattle.std.proofs.Common.{◌≡◌, ◌+◌, vec_len}
use Rattle.lack_search.proofs.walk.note_places.Given as goal

abbrev pub invariant-loop-send : goal.invariant-loop-send
invariant-loop-send l = vec_len l.places ≡ vec_len l.fn.places + l.send-index
