-- Each turn writes the line of the next event after those before, if it has one.
use Rattle.std.proofs.Common.{length, ◌∙◌, ap, arith}
use Rattle.st_core.specs.Streams.{events_of}
use Rattle.st_plan.specs.Marks.{all_streams}
use Rattle.st_text.proofs.ForCallers.{goes_still, on_err}
use Rattle.seqtool_commands.specs.Lines.{added_at}
use Rattle.seqtool_commands.proofs.Completions.{line_in}
use Rattle.seqtool_commands.proofs.Rooms.{goes_next, part_among}
use Rattle.seqtool_commands.proofs.completion_lines.write_added_of.Goals as goal

pub loop-index-init : goal.loop-index-init
loop-index-init g c = goes_still g.W.ByteSink.puts g.W.ByteSink.failed

pub loop-index-preserved : goal.loop-index-preserved
loop-index-preserved g c =
    let line = line_in c.args.completion.now.wholes c.args.pid c.events-events.result.now
    c.marks_of-marks.result.now c.loop-index.index
    (c.events-events.ensures.value ∙ ap (λ ss. events_of ss c.args.pid) c.streams.ensures)
    c.marks_of-marks.ensures in
    goes_next g.W.ByteSink.puts g.W.ByteSink.failed
    (added_at c.args.completion.now.wholes c.args.pid) c.loop-index.index
    c.loop-index.invariant (rw line at c.in_ok-write_if_added.ensures)

pub returns-in_err-write_if_added : goal.returns-in_err-write_if_added
returns-in_err-write_if_added g c =
    let events = c.events-events.ensures.value
    ∙ ap (λ ss. events_of ss c.args.pid) c.streams.ensures in
    let line = line_in c.args.completion.now.wholes c.args.pid c.events-events.result.now
    c.marks_of-marks.result.now c.loop-index.index events c.marks_of-marks.ensures in
    let long = ap length events in
    let below = c.loop-index-test.true in
    on_err _ _ _ _ c.from_residual.ensures.0
    (part_among g.W.ByteSink.puts g.W.ByteSink.failed
    (added_at c.args.completion.now.wholes c.args.pid) c.loop-index.index
    (length (events_of (all_streams c.args.completion.now.wholes) c.args.pid))
    (omega (arith, long, below)) c.loop-index.invariant
    (rw line at c.in_err-write_if_added.ensures))
