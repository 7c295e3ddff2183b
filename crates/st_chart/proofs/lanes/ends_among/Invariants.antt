-- The listed ends so far, and those among the ends that are left, are all listed ends.
use Rattle.std.proofs.Common.{◌≡◌, ◌++◌, filter}
use Rattle.st_core.specs.Streams.{is_among}
use Rattle.st_chart.proofs.lanes.ends_among.Given as goal

abbrev pub invariant-loop-end : goal.invariant-loop-end
invariant-loop-end l =
    l.noted.items ++ filter (is_among l.pids) l.end-iterator ≡ filter (is_among l.pids) l.ends.keys
