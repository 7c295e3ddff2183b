-- The draft ends in the process with the events taken so far.
use Rattle.std.proofs.Common.{◌≡◌, ◌∷◌, [], ◌++◌, take}
use Rattle.st_core.specs.Run.{Stream}
use Rattle.lack_needs.proofs.silent.add_process.Given as goal

abbrev pub invariant-loop-event : goal.invariant-loop-event
invariant-loop-event l = let x : Stream = record {
  pid = l.fn.pid;
  events =
      take l.event-index l.fn.events;
} in
    l.draft ≡ l.fn.draft ++ x ∷ []
