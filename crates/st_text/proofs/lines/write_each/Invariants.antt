-- The lines so far were written.
use Rattle.std.proofs.Common.{take}
use Rattle.std.specs.List.{flat_map}
use Rattle.st_text.specs.Spelling.{ended_line}
use Rattle.st_text.specs.Writing.{Goes}
use Rattle.st_text.proofs.lines.write_each.Given as goal

abbrev pub invariant-loop-line : goal.invariant-loop-line
invariant-loop-line g l =
    Goes g.S.ByteSink.puts g.S.ByteSink.failed
    (flat_map (λ line. ended_line (g.L.TextLine.words line)) (take l.line-index l.lines))
    l.initial.sink l.sink l.initial.buffer.items l.buffer.items
