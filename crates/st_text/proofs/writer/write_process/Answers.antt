-- The process goes first, then its events.
use Rattle.std.proofs.Common.{map}
use Rattle.std.specs.List.{flat_map}
use Rattle.st_core.specs.Streams.{events_of}
use Rattle.st_text.specs.declared.line.Line.TheVariants as lines
use Rattle.st_text.specs.Text.{ended}
use Rattle.st_text.proofs.Puts.{part_longer, then_on, on_err, on_images}
use Rattle.st_text.proofs.writer.write_process.Goals as goal

pub returns-in_err-write_line : goal.returns-in_err-write_line
returns-in_err-write_line g c =
    on_err _ _ _ _ c.from_residual.ensures.0
    (part_longer g.S.ByteSink.puts g.S.ByteSink.failed (ended (lines.Process c.args.pid))
    (flat_map ended (map lines.Event (events_of c.args.streams.now c.args.pid))) _
    c.in_err-write_line.ensures)

pub returns : goal.returns
returns g c =
    let es = events_of c.args.streams.now c.args.pid in
    then_on g.S.ByteSink.puts g.S.ByteSink.failed (ended (lines.Process c.args.pid))
    (flat_map ended (map lines.Event es))
    _ _ c.write_each.result c.in_ok-write_line.ensures
    (on_images g.S.ByteSink.puts g.S.ByteSink.failed ended lines.Event es _ _ _ _
    c.write_each.result
    (rw c.events.ensures.value at c.write_each.ensures))
