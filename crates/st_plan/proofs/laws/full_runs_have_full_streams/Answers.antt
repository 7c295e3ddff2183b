-- In a run that reports everything each stamp goes on from the events of its process before it.
use Rattle.st_plan.proofs.FullRuns.{run_full}
use Rattle.st_plan.proofs.laws.full_runs_have_full_streams.Goals as goal

pub returns : goal.returns
returns c = run_full
