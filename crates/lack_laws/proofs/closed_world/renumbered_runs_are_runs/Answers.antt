-- A completion in which nothing is needed stays one if its counts are replaced in order.
use Rattle.lack_laws.proofs.Renumbering.{shown_with}
use Rattle.lack_laws.proofs.closed_world.renumbered_runs_are_runs.Goals as goal

pub returns : goal.returns
returns c = shown_with
