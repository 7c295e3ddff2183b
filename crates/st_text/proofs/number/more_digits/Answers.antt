-- The next digit is one of the number too; if it doesn't fit, the number is too great.
use Rattle.std.proofs.Common.{arith}
use Rattle.st_text.proofs.Digits.{goes_on, none_that_fits}
use Rattle.st_text.proofs.number.more_digits.Goals as goal

pub loop-digit-preserved : goal.loop-digit-preserved
loop-digit-preserved c = λ all h.
    goes_on c.in-Some.digit c.loop-digit.n c.in_ok-n.n all c.loop-digit.rest.now
    c.in-Some.more.now c.in-Some.ensures.0 (c.loop-digit.invariant all h) c.in-Some.ensures.1
    (omega (arith, c.in_ok-n.ensures)) (omega (arith, c.in_ok-n.ensures))

pub returns-in_err-n-clause-exact : goal.returns-in_err-n-clause-exact
returns-in_err-n-clause-exact c = λ all h.
    rw c.from_residual.ensures
    (none_that_fits c.args.most c.in-Some.digit c.loop-digit.n all c.loop-digit.rest.now
    c.in-Some.more.now (omega arith) c.in-Some.ensures.0 (c.loop-digit.invariant all h)
    c.in-Some.ensures.1 (omega (arith, c.in_err-n.ensures)))
