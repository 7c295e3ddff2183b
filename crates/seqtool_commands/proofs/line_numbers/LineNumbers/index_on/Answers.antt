-- A line below the first event, or after the last one, is none of the process's.
use Rattle.std.proofs.Common.{◌∙◌, sym}
use Rattle.seqtool_commands.proofs.LineFirsts.{line_above, line_below, line_none_says, line_on}
use Rattle.seqtool_commands.proofs.line_numbers.LineNumbers.index_on.Goals as goal

pub returns-in-None-clause-missing : goal.returns-in-None-clause-missing
returns-in-None-clause-missing c = λ i.
    line_none_says c.args.self.now c.args.pid i c.args.line
    (sym c.first.ensures.value ∙ c.in-None.is)

pub returns-then-line-first-clause-found : goal.returns-then-line-first-clause-found
returns-then-line-first-clause-found c =
    line_on c.args.self.now c.args.pid c.in-Some.first c.args.line
    (sym c.first.ensures.value ∙ c.in-Some.is)
    c.if-first-line.true (rw (c.len.ensures, c.self.view_is) at c.if-line-first.true)

pub returns-else-first-line-clause-missing : goal.returns-else-first-line-clause-missing
returns-else-first-line-clause-missing c = λ i.
    let at = sym c.first.ensures.value ∙ c.in-Some.is in
    elim c.else-first-line.branch [
      | goal.else-first-line-via-then-first-line+else-line-first w ↦
          line_above c.args.self.now c.args.pid c.in-Some.first c.args.line i at
          (rw (w.len.ensures, c.self.view_is) at w.if-line-first.false)
      | goal.else-first-line-via-else-first-line w ↦
          line_below c.args.self.now c.args.pid c.in-Some.first c.args.line i at
          w.if-first-line.false
    ]
