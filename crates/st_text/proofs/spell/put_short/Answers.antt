-- A number below 10 is one digit, and one below 100 two.
use Rattle.std.proofs.Common.{◌∙◌, ◌++◌, ℕ, List, ap, sym, arith}
use Rattle.std.proofs.lemmas.Fmt.{decimal_digit}
use Rattle.st_text.proofs.Decimals.{of_two}
use Rattle.st_text.proofs.spell.put_short.Goals as goal

pub returns-then-number-lt10 : goal.returns-then-number-lt10
returns-then-number-lt10 c =
    let old = c.args.buffer.now.items in
    record {
      items =
          c.put_bytes.ensures.items
          ∙ ap (λ (t : List ℕ). old ++ t) (sym (decimal_digit c.args.number c.if-number-lt10.true));
      len = omega (arith, c.put_bytes.ensures.len);
    }

pub returns-else-number-lt10 : goal.returns-else-number-lt10
returns-else-number-lt10 c =
    let old = c.args.buffer.now.items in
    record {
      items =
          c.put_pair.ensures.items
          ∙ ap (λ (t : List ℕ). old ++ t)
          (sym (of_two c.args.number c.if-number-lt10.false (omega arith)));
      len = omega (arith, c.put_pair.ensures.len);
    }
