-- The last receive of all is the last one with its count.
use Rattle.std.proofs.Common.{sym, ◌∙◌, ap}
use Rattle.st_chain.specs.Causes.{received_before}
use Rattle.st_chain.proofs.PassedReceives.{last_found}
use Rattle.st_chain.proofs.receives.Passed.find.Goals as goal

pub returns-then-count-this-clause-found : goal.returns-then-count-this-clause-found
returns-then-count-this-clause-found c =
    let es = c.args.events.now in
    let found = last_found es c.args.index (c.in-Some.count, c.in-Some.place)
    (sym c.requires.passed.last ∙ c.in-Some.is) in
    sym (ap (λ n. received_before es n c.args.index) (sym c.if-count-this.true) ∙ found)
