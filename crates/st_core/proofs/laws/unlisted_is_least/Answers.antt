-- The search goes by pid and then index, and passes only events whose pids are listed.
use Rattle.st_core.proofs.Leastness as leastness
use Rattle.st_core.proofs.laws.unlisted_is_least.Goals as goal

pub returns : goal.returns
returns c = leastness.unlisted_is_least
