-- The pairs come after the line yes.
use Rattle.std.proofs.Common.{codes}
use Rattle.std.specs.List.{flat_map}
use Rattle.st_commands.specs.Output.{pair_line}
use Rattle.st_text.specs.Spelling.{ended_line}
use Rattle.st_text.proofs.ForCallers.{part_longer, then_on, on_err}
use Rattle.st_commands.proofs.lines.write_yes.Goals as goal

pub returns-in_err-write_line : goal.returns-in_err-write_line
returns-in_err-write_line g c =
    on_err _ _ _ _ c.from_residual.ensures.0
    (part_longer g.W.ByteSink.puts g.W.ByteSink.failed (ended_line (codes "yes"))
    (flat_map pair_line c.args.pairs.now) _
    c.in_err-write_line.ensures)

pub returns : goal.returns
returns g c =
    then_on g.W.ByteSink.puts g.W.ByteSink.failed (ended_line (codes "yes"))
    (flat_map pair_line c.args.pairs.now) _ _
    c.write_pairs.result c.in_ok-write_line.ensures c.write_pairs.ensures
