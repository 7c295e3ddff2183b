-- Each end so far is one of the streams.
use Rattle.std.proofs.Common.{All}
use Rattle.lack_acts.specs.Homes.{IsEndIn}
use Rattle.lack_acts.proofs.homes.ends_of.Given as goal

abbrev pub invariant-loop-process : goal.invariant-loop-process
invariant-loop-process l = All (IsEndIn l.fn.streams) l.ends.items
