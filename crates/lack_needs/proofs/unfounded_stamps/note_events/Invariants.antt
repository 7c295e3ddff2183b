-- The lowest counts noted so far are those of the events taken so far.
use Rattle.std.proofs.Common.{take, ℕ, Option}
use Rattle.st_core.specs.declared.types.Pid.{Pid}
use Rattle.st_core.specs.Run.{pids_of}
use Rattle.lack_needs.specs.Unfounded.{lowest_in, IsNoted}
use Rattle.lack_needs.proofs.unfounded_stamps.note_events.Given as goal

abbrev pub invariant-loop-event : goal.invariant-loop-event
invariant-loop-event l = (low : Pid → Option ℕ) → IsNoted (pids_of l.fn.streams) low l.fn.lows.items
    → IsNoted (pids_of l.fn.streams) (λ q. lowest_in q (low q) (take l.event-index l.fn.events))
    l.lows.items
