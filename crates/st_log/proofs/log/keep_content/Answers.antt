-- A content that says the whole entry has its place in lists of any length.
use Rattle.std.proofs.Common.{length}
use Rattle.st_log.proofs.log.keep_content.Goals as goal

pub returns-in-Some-clause-placed : goal.returns-in-Some-clause-placed
returns-in-Some-clause-placed c =
    c.in-Some.ensures.placed (length c.args.calls.now.calls) (length c.args.traced.now.items)
    (length c.args.apart.now.items)
