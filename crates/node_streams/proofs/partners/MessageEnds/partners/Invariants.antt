-- The partners of the events so far are there.
use Rattle.std.proofs.Common.{◌≡◌, ◌++◌, take, drop}
use Rattle.node_streams.specs.Messages.{each_from, other_end_of, partners}
use Rattle.node_streams.proofs.partners.MessageEnds.partners.Given as goal

abbrev pub invariant-loop-i : goal.invariant-loop-i
invariant-loop-i l =
    l.found.items ++ each_from (other_end_of l.self) (take l.i l.events) (drop l.i l.events)
    ≡ partners l.self l.events
