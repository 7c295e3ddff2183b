-- A list of events that all name listed pids can be left out of the search.
use Rattle.std.proofs.Common.{◌≡◌, drop}
use Rattle.st_core.specs.Collected.{first_failing}
use Rattle.st_core.specs.Streams.{names_among}
use Rattle.st_core.proofs.streams.first_failing.Given as goal

-- the first failing event of all is the first failing event of what is left
abbrev pub invariant-loop-place : goal.invariant-loop-place
invariant-loop-place l =
    first_failing (names_among l.pids) l.pids l.lists
    ≡ first_failing (names_among l.pids) (drop l.place l.pids) (drop l.place l.lists)
