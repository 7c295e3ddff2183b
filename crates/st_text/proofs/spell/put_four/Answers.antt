-- The digits before a number's last two spell its quotient by 100.
use Rattle.std.proofs.Common.{arith, append_assoc}
use Rattle.st_text.proofs.Decimals.{last_two}
use Rattle.st_text.proofs.spell.put_four.Goals as goal

pub returns-then-number-lt100 : goal.returns-then-number-lt100
returns-then-number-lt100 c =
    record { items = c.put_short.ensures.items; len = omega (arith, c.put_short.ensures.len) }

pub returns-else-number-lt100 : goal.returns-else-number-lt100
returns-else-number-lt100 c =
    record {
      items =
          rw (
            c.put_pair.ensures.items,
            c.put_short-else-number-lt100.ensures.items,
            last_two c.args.number c.if-number-lt100.false (omega arith),
          ) (simp append_assoc);
      len = omega (arith, c.put_short-else-number-lt100.ensures.len, c.put_pair.ensures.len);
    }
