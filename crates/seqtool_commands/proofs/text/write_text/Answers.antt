-- Room is made for the head of the line, and then for the rest.
use Rattle.std.proofs.Common.{[]}
use Rattle.st_text.specs.Spelling.{ended_line}
use Rattle.st_text.proofs.ForCallers.{goes_then, then_on, on_err, part_longer, goes_buffer}
use Rattle.node_hops.specs.Hops.{node_hop_of}
use Rattle.seqtool_commands.specs.WhyWords.{head_words, hop_line, hop_words}
use Rattle.seqtool_commands.proofs.text.write_text.Goals as goal

pub returns-in_err-make_room : goal.returns-in_err-make_room
returns-in_err-make_room g c =
    let x = c.args.node in
    let line = hop_line c.args.trace.now c.args.direction x.depth x.place.0 x.place.1
    c.args.event.now in
    on_err _ _ _ _ c.from_residual.ensures.0
    (part_longer g.W.ByteSink.puts g.W.ByteSink.failed [] line _ c.in_err-make_room.ensures.goes)

pub returns-in_err-make_room-2 : goal.returns-in_err-make_room-2
returns-in_err-make_room-2 g c =
    let e = c.args.event.now in
    let x = c.args.node in
    let streams = c.args.trace.now in
    let front = head_words streams c.args.direction x.depth x.place.0 x.place.1 e in
    let rest = ended_line (hop_words streams x.place.0 e.label
    (node_hop_of streams x.place.0 x.place.1 e)) in
    let sink = g.W.ByteSink in
    let begun = goes_then sink.puts sink.failed [] front c.in_ok-make_room.ensures.goes
    (goes_buffer sink.puts sink.failed (rw c.numbers-numbers.ensures at c.put_head.ensures)) in
    then_on sink.puts sink.failed front rest _ _ _ begun
    (on_err _ _ _ _ c.from_residual-in_err-make_room-2.ensures.0
    (part_longer sink.puts sink.failed [] rest _ c.in_err-make_room-2.ensures.goes))

pub returns : goal.returns
returns g c =
    let e = c.args.event.now in
    let x = c.args.node in
    let streams = c.args.trace.now in
    let front = head_words streams c.args.direction x.depth x.place.0 x.place.1 e in
    let rest = ended_line (hop_words streams x.place.0 e.label
    (node_hop_of streams x.place.0 x.place.1 e)) in
    let sink = g.W.ByteSink in
    let begun = goes_then sink.puts sink.failed [] front c.in_ok-make_room.ensures.goes
    (goes_buffer sink.puts sink.failed (rw c.numbers-numbers.ensures at c.put_head.ensures)) in
    let end = rw (c.hop-hop.ensures, c.numbers-numbers.ensures) at c.put_sentence.ensures in
    let ended = goes_then sink.puts sink.failed [] rest c.in_ok-make_room-2.ensures.goes
    (goes_buffer sink.puts sink.failed end) in
    goes_then sink.puts sink.failed front rest begun ended
