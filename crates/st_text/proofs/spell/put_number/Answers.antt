-- The digits before a number's last four spell its quotient by 10,000.
use Rattle.std.proofs.Common.{arith, append_assoc}
use Rattle.st_text.proofs.Decimals.{last_four}
use Rattle.st_text.proofs.spell.put_number.Goals as goal

pub returns-then-number-lt10000 : goal.returns-then-number-lt10000
returns-then-number-lt10000 c =
    record { items = c.put_four.ensures.items; len = omega (arith, c.put_four.ensures.len) }

pub returns-then-number-lt100000000 : goal.returns-then-number-lt100000000
returns-then-number-lt100000000 c =
    record {
      items =
          rw (
            c.put_pair-then-number-lt100000000.ensures.items,
            c.put_pair.ensures.items,
            c.put_four-then-number-lt100000000.ensures.items,
            last_four c.args.number c.if-number-lt10000.false (omega arith),
          ) (simp append_assoc);
      len =
          omega (
            arith,
            c.put_four-then-number-lt100000000.ensures.len,
            c.put_pair.ensures.len,
            c.put_pair-then-number-lt100000000.ensures.len,
          );
    }
