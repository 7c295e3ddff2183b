-- The ends of the events so far are there.
use Rattle.std.proofs.Common.{◌≡◌, ◌++◌, drop}
use Rattle.node_streams.specs.Tables.{ends_from}
use Rattle.node_streams.proofs.ends.own_ends.Given as goal

abbrev pub invariant-loop-i : goal.invariant-loop-i
invariant-loop-i l =
    l.ends.items ++ ends_from l.kind l.i (drop l.i l.events) ≡ ends_from l.kind 0 l.events
