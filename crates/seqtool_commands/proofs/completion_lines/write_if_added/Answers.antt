-- An event that was told has no line.
use Rattle.std.proofs.Common.{get_or, sym, ◌∙◌, true, false}
use Rattle.st_pair.proofs.ForCallers.{at_get_or, blank}
use Rattle.st_text.proofs.ForCallers.{goes_still}
use Rattle.seqtool_commands.proofs.Completions.{line_by}
use Rattle.seqtool_commands.proofs.completion_lines.write_if_added.Goals as goal

pub returns-then-is_marked : goal.returns-then-is_marked
returns-then-is_marked g c =
    let es = c.args.events.now in
    let i = c.args.index in
    rw (line_by c.args.pid es c.args.marks.now i (get_or es i blank) true
    (at_get_or es i blank c.requires) (sym c.is_marked.ensures ∙ c.if-is_marked.true))
    (goes_still g.W.ByteSink.puts g.W.ByteSink.failed)

pub returns : goal.returns
returns g c =
    let es = c.args.events.now in
    let i = c.args.index in
    rw (line_by c.args.pid es c.args.marks.now i (get_or es i blank) false
    (at_get_or es i blank c.requires) (sym c.is_marked.ensures ∙ c.if-is_marked.false))
    c.write_place_line.ensures
