-- If there were too many bytes, their fault is TooLarge.
use Rattle.std.proofs.Common.{Bool, subst}
use Rattle.st_text.specs.Fed.{FedAs}
use Rattle.st_text.proofs.Newlines.{fault_too_large}
use Rattle.st_text.proofs.feed.Feed.end.Goals as goal

pub returns-then-large-clause-answers : goal.returns-then-large-clause-answers
returns-then-large-clause-answers c = λ bytes fed.
    let f = c.args.self in
    fault_too_large f.limits bytes
    (subst (λ (b : Bool). FedAs f.limits b f.cutter.out bytes f.count f.cutter)
    c.if-large.true fed)
