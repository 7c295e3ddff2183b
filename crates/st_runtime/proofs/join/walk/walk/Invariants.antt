-- The cursors passed the entries so far, and the last of these has the rank and the actor that are
-- kept.
use Rattle.std.proofs.Common.{◌≡◌, ◌≤◌, length, map, vec_len}
use Rattle.std.specs.Prelude.{All}
use Rattle.std.specs.Vec.{vec_capacity}
use Rattle.st_runtime.specs.Joining.{referred, IsThere}
use Rattle.st_runtime.specs.Pieces.{pids_in}
use Rattle.st_runtime.specs.Walk.{pids_along}
use Rattle.st_runtime.proofs.Walks.{IsUnderway}
use Rattle.st_runtime.proofs.join.walk.walk.Given as goal

abbrev pub invariant-loop-turn : goal.invariant-loop-turn
invariant-loop-turn g l =
    IsUnderway l.processes (map referred l.entries.items) l.cursors.items l.last.0 l.last.1
    × (pids_along l.cursors.items ≡ pids_in l.processes)
    × All IsThere l.entries.items
    × (vec_len l.entries ≡ l.turn-index)
    × (length l.turns ≤ vec_capacity l.entries)
