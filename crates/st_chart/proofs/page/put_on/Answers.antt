-- The bytes are the front, which fills a piece, and the back after it.
use Rattle.std.proofs.Common.{[], take, drop, sym}
use Rattle.std.proofs.lemmas.List.{append-nil, take-append-drop}
use Rattle.st_text.proofs.ForCallers.{part_longer, goes_then, then_on, on_err}
use Rattle.st_chart.proofs.Rooms.{no_room_before}
use Rattle.st_chart.proofs.page.put_on.Goals as goal

pub returns-in_err-keep : goal.returns-in_err-keep
returns-in_err-keep g c =
    let front = take c.min.result c.args.bytes.now in
    let back = drop c.min.result c.args.bytes.now in
    let failed = rw c.split_at.ensures.front at c.in_err-keep.ensures in
    rw (sym (take-append-drop c.min.result c.args.bytes.now))
    (on_err _ _ _ _ c.from_residual.ensures.0
    (part_longer g.W.ByteSink.puts g.W.ByteSink.failed front back _ failed))

pub returns-in_err-turn : goal.returns-in_err-turn
returns-in_err-turn g c =
    let back = drop c.min.result c.args.bytes.now in
    let went = rw c.split_at.ensures.front at c.in_ok-keep.ensures in
    on_err _ _ _ _ c.from_residual-in_err-turn.ensures.0
    (no_room_before g.W.ByteSink.puts g.W.ByteSink.failed back
    (take-append-drop c.min.result c.args.bytes.now) went
    c.in_err-turn.ensures.goes)

pub returns : goal.returns
returns g c =
    let front = take c.min.result c.args.bytes.now in
    let back = drop c.min.result c.args.bytes.now in
    let kept = rw c.split_at.ensures.front at c.in_ok-keep.ensures in
    let went = rw (append-nil front) at
    (goes_then g.W.ByteSink.puts g.W.ByteSink.failed front [] kept c.in_ok-turn.ensures.goes) in
    rw (sym (take-append-drop c.min.result c.args.bytes.now))
    (then_on g.W.ByteSink.puts g.W.ByteSink.failed front back _ _ c.keep-3.result went
    (rw c.split_at.ensures.back at c.keep-3.ensures))
