-- Room is made for the front of the line, and then for the rest.
use Rattle.std.proofs.Common.{codes, ◌++◌}
use Rattle.st_text.specs.Spelling.{ended_line}
use Rattle.st_text.proofs.ForCallers.{goes_then, then_on, room_then, no_room}
use Rattle.st_chart.specs.Words.{place_words}
use Rattle.st_chart.specs.Report.{event_words, place_line}
use Rattle.st_chart.proofs.reporting.write_place_line.Goals as goal

pub returns-in_err-make_room : goal.returns-in_err-make_room
returns-in_err-make_room g c =
    no_room g.W.ByteSink.puts g.W.ByteSink.failed
    (place_line c.args.word.now c.args.pid c.args.index c.args.event) _ _ _
    c.from_residual.ensures.0 c.in_err-make_room.ensures.goes

pub returns-in_err-make_room-2 : goal.returns-in_err-make_room-2
returns-in_err-make_room-2 g c =
    let front = c.args.word.now ++ place_words c.args.pid c.args.index ++ codes " " in
    let rest = ended_line (event_words c.args.event) in
    let sink = g.W.ByteSink in
    let begun = room_then sink.puts sink.failed front c.in_ok-make_room.ensures.goes
    c.put_front.ensures in
    let is = c.from_residual-in_err-make_room-2.ensures.0 in
    then_on sink.puts sink.failed front rest _ _ _ begun
    (no_room sink.puts sink.failed rest _ _ _ is c.in_err-make_room-2.ensures.goes)

pub returns : goal.returns
returns g c =
    let front = c.args.word.now ++ place_words c.args.pid c.args.index ++ codes " " in
    let rest = ended_line (event_words c.args.event) in
    let sink = g.W.ByteSink in
    let begun = room_then sink.puts sink.failed front c.in_ok-make_room.ensures.goes
    c.put_front.ensures in
    let ended = room_then sink.puts sink.failed rest c.in_ok-make_room-2.ensures.goes
    c.put_back.ensures in
    goes_then sink.puts sink.failed front rest begun ended
