-- All that a run does is what its loud run reports, which are full streams.
use Rattle.lack_laws.proofs.RunCompletions.{run_completed}
use Rattle.lack_laws.proofs.closed_world.runs_have_full_completions.Goals as goal

pub returns : goal.returns
returns c = run_completed
