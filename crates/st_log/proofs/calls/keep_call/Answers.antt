-- A brief form that says the call itself has its place in a list of any length.
use Rattle.std.proofs.Common.{length}
use Rattle.st_log.proofs.calls.keep_call.Goals as goal

pub returns-in-Some-clause-placed : goal.returns-in-Some-clause-placed
returns-in-Some-clause-placed c = c.in-Some.ensures.placed (length c.args.whole.now.items)
