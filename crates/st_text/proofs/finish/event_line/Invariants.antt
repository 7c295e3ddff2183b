-- Counting on from here over the other processes comes to the event's line.
use Rattle.std.proofs.Common.{◌≡◌, ◌<◌, ◌^◌, drop, length}
use Rattle.st_core.specs.Streams.{events_of}
use Rattle.st_text.specs.Parts.Finish.{event_line_number, line_at_place}
use Rattle.st_text.proofs.finish.event_line.Given as goal

abbrev pub invariant-loop-p : goal.invariant-loop-p
invariant-loop-p l =
    event_line_number l.draft l.pid l.index < 2 ^ 64 → event_line_number l.draft l.pid l.index
    ≡ line_at_place (λ q. length (events_of l.draft q)) l.n (drop l.p-index l.p-items) l.pid l.index
