-- The sends of the events so far are there.
use Rattle.std.proofs.Common.{◌≡◌, ◌++◌, take, drop}
use Rattle.node_streams.specs.Messages.{each_from, taken_send, taken_sends}
use Rattle.node_streams.proofs.sends.Sends.taken_by.Given as goal

abbrev pub invariant-loop-i : goal.invariant-loop-i
invariant-loop-i l =
    l.found.items ++ each_from (taken_send l.self) (take l.i l.events) (drop l.i l.events)
    ≡ taken_sends l.self l.events
