-- If memory runs out, the bytes are written after all that waited.
use Rattle.std.proofs.Common.{[]}
use Rattle.st_text.proofs.ForCallers.{goes_buffer, then_on}
use Rattle.st_chart.proofs.page.keep.Goals as goal

pub returns-in-Ok : goal.returns-in-Ok
returns-in-Ok g c = goes_buffer g.W.ByteSink.puts g.W.ByteSink.failed c.in-Ok.ensures.items

pub returns-in_ok-turn-in-Err : goal.returns-in_ok-turn-in-Err
returns-in_ok-turn-in-Err g c =
    let turned = c.in_ok-turn-in-Err.ensures in
    let went = rw c.in-Err.ensures.items at (rw turned.empty at turned.goes) in
    rw turned.empty
    (then_on g.W.ByteSink.puts g.W.ByteSink.failed [] c.args.bytes.now _ _ c.put_all.result went
    c.put_all.ensures)
