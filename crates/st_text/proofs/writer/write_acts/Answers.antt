-- The word goes first, then the acts.
use Rattle.std.proofs.Common.{map}
use Rattle.std.specs.List.{flat_map}
use Rattle.st_text.specs.declared.line.Line.TheVariants as lines
use Rattle.st_text.specs.Text.{ended}
use Rattle.st_text.proofs.Puts.{part_longer, then_on, on_err, on_images}
use Rattle.st_text.proofs.writer.write_acts.Goals as goal

pub returns-in_err-write_line : goal.returns-in_err-write_line
returns-in_err-write_line g c =
    on_err _ _ _ _ c.from_residual.ensures.0
    (part_longer g.S.ByteSink.puts g.S.ByteSink.failed (ended lines.Acts)
    (flat_map ended (map lines.Act c.args.acts.now)) _ c.in_err-write_line.ensures)

pub returns : goal.returns
returns g c =
    then_on g.S.ByteSink.puts g.S.ByteSink.failed (ended lines.Acts)
    (flat_map ended (map lines.Act c.args.acts.now)) _
    _ c.write_each.result c.in_ok-write_line.ensures
    (on_images g.S.ByteSink.puts g.S.ByteSink.failed ended lines.Act c.args.acts.now _ _ _ _
    c.write_each.result
    c.write_each.ensures)
