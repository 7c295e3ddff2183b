-- The draft ends in the process with the events taken so far.
use Rattle.std.proofs.Common.{◌≡◌, ◌∷◌, [], ◌++◌, map, take}
use Rattle.st_core.specs.Run.{Stream}
use Rattle.lack_acts.proofs.marked_streams.add_events.Given as goal

abbrev pub invariant-loop-one : goal.invariant-loop-one
invariant-loop-one l = let x : Stream = record {
  pid = l.fn.pid;
  events =
      map (λ m. m.event) (take l.one-index l.events);
} in
    l.draft ≡ l.fn.draft ++ x ∷ []
