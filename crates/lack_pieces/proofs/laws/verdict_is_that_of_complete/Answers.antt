-- Two verdicts on streams name the same least place, and `complete` names it too.
use Rattle.lack_pieces.proofs.Named.{named, one_verdict}
use Rattle.lack_pieces.proofs.laws.verdict_is_that_of_complete.Goals as goal

pub returns-clause-one : goal.returns-clause-one
returns-clause-one c = one_verdict

pub returns-clause-named : goal.returns-clause-named
returns-clause-named c = named
