-- The places of the processes so far are there.
use Rattle.std.proofs.Common.{◌≡◌, ◌++◌, drop}
use Rattle.st_core.specs.Run.{pids_of}
use Rattle.node_streams.specs.Messages.{unsent_among}
use Rattle.node_streams.proofs.receives.unsent.Given as goal

abbrev pub invariant-loop-place : goal.invariant-loop-place
invariant-loop-place l =
    l.places.items ++ unsent_among l.streams (drop l.place (pids_of l.streams))
    ≡ unsent_among l.streams (pids_of l.streams)
