-- The streams go first, then the acts if there are any.
use Rattle.std.proofs.Common.{◌≡◌, ◌∙◌, ◌∷◌, ◌++◌, List, ℕ, Option, Some, None, map, ap, sym, subst}
use Rattle.std.specs.Prelude.{option_map}
use Rattle.std.specs.Borrow.{Bor}
use Rattle.std.specs.List.{flat_map}
use Rattle.std.proofs.lemmas.List.{append-nil}
use Rattle.std.proofs.lemmas.List.Concat.{flat_map-append}
use Rattle.st_core.specs.declared.types.Act.{Act}
use Rattle.st_core.specs.Run.{Stream}
use Rattle.st_text.specs.declared.line.Line.TheVariants as lines
use Rattle.st_text.specs.Text.{ended, process_lines, act_lines, body, parts}
use Rattle.st_text.specs.Writing.{Goes, WritesOn, WritesPart}
use Rattle.st_text.proofs.Puts.{part_longer, then_on, on_err}
use Rattle.st_text.proofs.writer.write_body.Goals as goal

abbrev streams_text : List Stream → List ℕ
streams_text ss = flat_map ended (flat_map process_lines ss)

abbrev acts_text : Option (Bor (List Act)) → List ℕ
acts_text o = flat_map ended (act_lines (option_map (λ a. a.now) o))

two_parts : (ss : List Stream) (o : Option (Bor (List Act)))
    → flat_map ended (body (parts ss o)) ≡ streams_text ss ++ acts_text o
two_parts ss o = flat_map-append ended (flat_map process_lines ss)
    (act_lines (option_map (λ a. a.now) o))

one_part : (ss : List Stream) (o : Option (Bor (List Act))) → o ≡ None
    → flat_map ended (body (parts ss o)) ≡ streams_text ss
one_part ss None e = ap (flat_map ended) (append-nil (flat_map process_lines ss))
one_part ss (Some a) e = absurd cc

some_parts : (ss : List Stream) (o : Option (Bor (List Act))) (a : Bor (List Act)) → o ≡ Some a
    → flat_map ended (body (parts ss o)) ≡ streams_text ss
    ++ flat_map ended (lines.Acts ∷ map lines.Act a.now)
some_parts ss o a e = two_parts ss o
    ∙ ap (λ (x : Option (Bor (List Act))). streams_text ss ++ acts_text x) e

pub returns-in_err-write_streams : goal.returns-in_err-write_streams
returns-in_err-write_streams g c =
    let longer =
    part_longer g.S.ByteSink.puts g.S.ByteSink.failed (streams_text c.args.streams.now)
    (acts_text c.args.acts) _
    c.in_err-write_streams.ensures in
    on_err _ _ _ _ c.from_residual.ensures.0
    (subst (λ (t : List ℕ). WritesPart g.S.ByteSink.puts g.S.ByteSink.failed
    (c.args.buffer.now.items ++ t)
    c.args.sink.now c.write_streams.new.sink) (sym (two_parts c.args.streams.now c.args.acts))
    longer)

pub returns-in-None : goal.returns-in-None
returns-in-None g c =
    subst (λ (t : List ℕ). Goes g.S.ByteSink.puts g.S.ByteSink.failed t c.args.sink.now
    c.write_streams.new.sink
    c.args.buffer.now.items c.write_streams.new.buffer.items)
    (sym (one_part c.args.streams.now c.args.acts c.in-None.is)) c.in_ok-write_streams.ensures

pub returns-in-Some : goal.returns-in-Some
returns-in-Some g c =
    let all =
    then_on g.S.ByteSink.puts g.S.ByteSink.failed (streams_text c.args.streams.now)
    (flat_map ended (lines.Acts ∷ map lines.Act c.in-Some.acts.now)) _ _ c.write_acts.result
    c.in_ok-write_streams.ensures c.write_acts.ensures in
    subst (λ (t : List ℕ). WritesOn g.S.ByteSink.puts g.S.ByteSink.failed t c.args.sink.now
    c.write_acts.new.sink
    c.args.buffer.now.items c.write_acts.new.buffer.items c.write_acts.result)
    (sym (some_parts c.args.streams.now c.args.acts c.in-Some.acts c.in-Some.is)) all
