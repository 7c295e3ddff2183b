-- The first place at which a test holds is the least, by pid and then index.
use Rattle.std.proofs.Common.{sym}
use Rattle.lack_needs.specs.Flaws.{test_of}
use Rattle.lack_needs.proofs.Flawed.{holds_of_none, least_there}
use Rattle.lack_needs.proofs.first_flaws.find_flaw.Goals as goal

pub returns-in-None-clause-none : goal.returns-in-None-clause-none
returns-in-None-clause-none c = holds_of_none (test_of c.args.flaw) c.args.streams.now
    (sym c.in-None.ensures)

pub returns-in-Some-clause-some : goal.returns-in-Some-clause-some
returns-in-Some-clause-some c = least_there (test_of c.args.flaw) c.args.streams.now _ _
    c.pids-is_streams.ensures.streams.draft.rising (sym c.in-Some.ensures)
