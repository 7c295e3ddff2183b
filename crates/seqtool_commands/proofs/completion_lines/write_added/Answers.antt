-- The three texts go one after the other.
use Rattle.std.proofs.Common.{◌++◌}
use Rattle.std.specs.List.{flat_map}
use Rattle.st_core.specs.Run.{pids_of}
use Rattle.st_plan.specs.Marks.{all_streams}
use Rattle.lack_needs.specs.Completions.{added_in}
use Rattle.seqtool_commands.specs.Lines.{added_of, count_line, unlisted_line}
use Rattle.st_text.proofs.ForCallers.{part_longer, goes_then, then_on, on_err, part_then}
use Rattle.seqtool_commands.proofs.completion_lines.write_added.Goals as goal

pub returns-in_err-write_line : goal.returns-in_err-write_line
returns-in_err-write_line g c =
    let done = c.args.completion.now in
    let first = count_line (added_in done.wholes) in
    let second = flat_map unlisted_line done.unlisted in
    let rest = flat_map (added_of done.wholes) (pids_of (all_streams done.wholes)) in
    on_err _ _ _ _ c.from_residual.ensures.0
    (part_longer g.W.ByteSink.puts g.W.ByteSink.failed (first ++ second) rest _
    (part_longer g.W.ByteSink.puts g.W.ByteSink.failed first second _
    (rw c.added.ensures at c.in_err-write_line.ensures)))

pub returns-in_err-write_unlisted : goal.returns-in_err-write_unlisted
returns-in_err-write_unlisted g c =
    let done = c.args.completion.now in
    let first = count_line (added_in done.wholes) in
    let second = flat_map unlisted_line done.unlisted in
    let rest = flat_map (added_of done.wholes) (pids_of (all_streams done.wholes)) in
    let part = part_then g.W.ByteSink.puts g.W.ByteSink.failed first second
    (rw c.added.ensures at c.in_ok-write_line.ensures)
    (rw c.unlisted.ensures at c.in_err-write_unlisted.ensures) in
    on_err _ _ _ _ c.from_residual-in_err-write_unlisted.ensures.0
    (part_longer g.W.ByteSink.puts g.W.ByteSink.failed (first ++ second) rest _ part)

pub returns : goal.returns
returns g c =
    let done = c.args.completion.now in
    let first = count_line (added_in done.wholes) in
    let second = flat_map unlisted_line done.unlisted in
    let rest = flat_map (added_of done.wholes) (pids_of (all_streams done.wholes)) in
    let begun = goes_then g.W.ByteSink.puts g.W.ByteSink.failed first second
    (rw c.added.ensures at c.in_ok-write_line.ensures)
    (rw c.unlisted.ensures at c.in_ok-write_unlisted.ensures) in
    then_on g.W.ByteSink.puts g.W.ByteSink.failed
    (first ++ second) rest _ _ c.write_added_by.result begun
    (rw (c.pids.ensures.value, c.streams.ensures) at c.write_added_by.ensures)
