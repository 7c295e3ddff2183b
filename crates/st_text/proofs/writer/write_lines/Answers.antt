-- The header goes first, then the body.
use Rattle.std.specs.List.{flat_map, list_any}
use Rattle.st_text.specs.declared.line.Line.TheVariants as lines
use Rattle.st_text.specs.Text.{ended, is_remote, body, parts}
use Rattle.st_text.proofs.Puts.{part_longer, then_on, on_err}
use Rattle.st_text.proofs.writer.write_lines.Goals as goal

pub returns-in_err-write_line : goal.returns-in_err-write_line
returns-in_err-write_line g c =
    let b = body (parts c.args.streams.now c.args.acts) in
    on_err _ _ _ _ c.from_residual.ensures.0
    (part_longer g.S.ByteSink.puts g.S.ByteSink.failed (ended (lines.Header (list_any is_remote b)))
    (flat_map ended b) _ (rw c.are_parts_remote.ensures at c.in_err-write_line.ensures))

pub returns : goal.returns
returns g c =
    let b = body (parts c.args.streams.now c.args.acts) in
    then_on g.S.ByteSink.puts g.S.ByteSink.failed (ended (lines.Header (list_any is_remote b)))
    (flat_map ended b) _ _
    c.write_body.result (rw c.are_parts_remote.ensures at c.in_ok-write_line.ensures)
    c.write_body.ensures
