-- Before 0 is the greatest count.
use Rattle.std.proofs.Common.{arith, sym, ◌∙◌}
use Rattle.node_given.proofs.CountValues.{count_follows, count_wraps}
use Rattle.node_given.proofs.counts.count_before.Goals as goal

pub returns-then-count-eq0-clause-next : goal.returns-then-count-eq0-clause-next
returns-then-count-eq0-clause-next c = count_wraps ∙ sym c.if-count-eq0.true

pub returns-clause-next : goal.returns-clause-next
returns-clause-next c =
    let other = c.if-count-eq0.false in
    count_follows c.args.count (omega arith) c.requires
