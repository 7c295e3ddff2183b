-- All digits are read, so the number is their value.
use Rattle.std.proofs.Common.{arith}
use Rattle.st_text.proofs.Digits.{none_of_more, number_read}
use Rattle.st_text.proofs.number.at_most.Goals as goal

pub returns-then-n-most-clause-exact : goal.returns-then-n-most-clause-exact
returns-then-n-most-clause-exact c = λ bytes h.
    none_of_more c.args.most c.args.n bytes c.args.rest.now h c.requires c.if-n-most.true

pub returns-clause-exact : goal.returns-clause-exact
returns-clause-exact c = λ bytes h.
    number_read c.args.most c.args.n bytes c.args.rest.now (omega arith) h c.requires (omega arith)
