-- The three texts go one after the other.
use Rattle.std.proofs.Common.{◌++◌}
use Rattle.st_text.proofs.ForCallers.{part_longer, then_on, goes_then, on_err, part_then}
use Rattle.st_chart.specs.Report.{event_line}
use Rattle.seqtool_commands.specs.Lines.{never_line, other_line}
use Rattle.seqtool_commands.proofs.completion_lines.write_never.Goals as goal

pub returns-in_err-write_line : goal.returns-in_err-write_line
returns-in_err-write_line g c =
    let first = never_line c.args.pid c.args.index c.args.never in
    let event = event_line c.args.streams.now c.args.pid c.args.index in
    let rest = other_line c.args.streams.now c.args.pid c.args.never in
    on_err _ _ _ _ c.from_residual.ensures.0
    (part_longer g.W.ByteSink.puts g.W.ByteSink.failed (first ++ event) rest _
    (part_longer g.W.ByteSink.puts g.W.ByteSink.failed first event _ c.in_err-write_line.ensures))

pub returns-in_err-write_event : goal.returns-in_err-write_event
returns-in_err-write_event g c =
    let first = never_line c.args.pid c.args.index c.args.never in
    let event = event_line c.args.streams.now c.args.pid c.args.index in
    let rest = other_line c.args.streams.now c.args.pid c.args.never in
    let part = part_then g.W.ByteSink.puts g.W.ByteSink.failed first event
    c.in_ok-write_line.ensures
    c.in_err-write_event.ensures in
    on_err _ _ _ _ c.from_residual-in_err-write_event.ensures.0
    (part_longer g.W.ByteSink.puts g.W.ByteSink.failed (first ++ event) rest _ part)

pub returns : goal.returns
returns g c =
    let first = never_line c.args.pid c.args.index c.args.never in
    let event = event_line c.args.streams.now c.args.pid c.args.index in
    let rest = other_line c.args.streams.now c.args.pid c.args.never in
    let begun = goes_then g.W.ByteSink.puts g.W.ByteSink.failed first event
    c.in_ok-write_line.ensures
    c.in_ok-write_event.ensures in
    then_on g.W.ByteSink.puts g.W.ByteSink.failed
    (first ++ event) rest _ _ c.write_other.result begun c.write_other.ensures
