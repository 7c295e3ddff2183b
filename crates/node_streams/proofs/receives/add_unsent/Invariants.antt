-- The places of the unsent receives so far are there.
use Rattle.std.proofs.Common.{◌≡◌, List, [], ◌++◌, take, drop}
use Rattle.st_core.specs.Run.{Stream}
use Rattle.node_streams.specs.Messages.{taken_sends, unsent_from}
use Rattle.node_streams.proofs.receives.add_unsent.Given as goal

abbrev pub invariant-loop-i : goal.invariant-loop-i
invariant-loop-i l = (streams : List Stream) → l.taken ≡ taken_sends streams l.events
    → l.places.items ++ unsent_from streams l.pid (take l.i l.events) (drop l.i l.events)
    ≡ l.fn.places.items ++ unsent_from streams l.pid [] l.events
