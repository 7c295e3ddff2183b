-- The processes so far were written.
use Rattle.std.proofs.Common.{take}
use Rattle.std.specs.List.{flat_map}
use Rattle.st_core.specs.Streams.{events_of}
use Rattle.st_text.specs.Text.{ended, process_lines}
use Rattle.st_text.specs.Writing.{Goes}
use Rattle.st_text.proofs.writer.write_streams.Given as goal

abbrev pub invariant-loop-pid : goal.invariant-loop-pid
invariant-loop-pid g l =
    Goes g.S.ByteSink.puts g.S.ByteSink.failed
    (flat_map (λ p. flat_map ended
    (process_lines (record { pid = p; events = events_of l.streams p })))
    (take l.pid-index l.pid-items)) l.initial.sink l.sink l.initial.buffer.items l.buffer.items
