-- The digits are read one after the other, and don't begin with 0, so they are the decimal
-- spelling of their value.
use Rattle.std.proofs.Common.{arith}
use Rattle.st_text.proofs.Digits.{begins, none_in_front, none_behind_zero, zero_alone}
use Rattle.st_text.proofs.number.number.Goals as goal

pub returns-in_err-first-clause-exact : goal.returns-in_err-first-clause-exact
returns-in_err-first-clause-exact c =
    rw c.from_residual.ensures
    (none_in_front c.args.most c.args.bytes.now (omega arith) c.in_err-first.ensures)

pub returns-in-None-clause-exact : goal.returns-in-None-clause-exact
returns-in-None-clause-exact c =
    zero_alone c.args.most c.in_ok-first.first c.args.bytes.now c.in_ok-first.after_first.now
    (omega arith)
    c.if-first-eq0.true c.in_ok-first.ensures.1 c.in-None.ensures

pub returns-in-Some-clause-exact : goal.returns-in-Some-clause-exact
returns-in-Some-clause-exact c =
    none_behind_zero c.args.most c.in_ok-first.first _ c.args.bytes.now
    c.in_ok-first.after_first.now _ (omega arith)
    c.if-first-eq0.true c.in-Some.ensures.0 c.in_ok-first.ensures.1 c.in-Some.ensures.1

pub returns-clause-exact : goal.returns-clause-exact
returns-clause-exact c =
    c.few_digits.ensures.exact c.args.bytes.now
    (begins c.in_ok-first.first c.from.result c.args.bytes.now c.in_ok-first.after_first.now
    (omega arith) c.in_ok-first.ensures.0 c.in_ok-first.ensures.1 (omega arith))
