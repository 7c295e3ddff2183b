-- Bytes longer than the longest line aren't a line.
use Rattle.std.proofs.Common.{sym, arith}
use Rattle.st_text.proofs.CutterSteps.{long_says_none, outgrown_says_none}
use Rattle.st_text.proofs.cutter.whole_line.Goals as goal

pub returns-then-long-clause-said : goal.returns-then-long-clause-said
returns-then-long-clause-said c =
    λ t h. sym (long_says_none c.args.long c.args.tail.now.items t c.args.rest.now c.if-long.true h)

pub returns-then-rest-len-clause-said : goal.returns-then-rest-len-clause-said
returns-then-rest-len-clause-said c =
    λ t h. sym (outgrown_says_none c.args.long c.args.tail.now.items t c.args.rest.now
    c.if-long.false
    (omega (arith, c.if-rest-len.true, c.len.ensures, c.args.tail.now.ok.0, c.requires)) h)
