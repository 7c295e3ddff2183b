-- All hidden sends but those left have a place.
use Rattle.std.proofs.Common.{◌≡◌, ◌+◌, length, vec_len}
use Rattle.lack_search.proofs.walk.places_of.Given as goal

abbrev pub invariant-loop-pid : goal.invariant-loop-pid
invariant-loop-pid l = vec_len l.walk.places + length l.rest ≡ length l.hidden
