-- A run's events are a full completion, which is settled, and a settled completion has acts.
use Rattle.lack_laws.proofs.RunCompletions.{exactly}
use Rattle.lack_laws.proofs.closed_world.shown_exactly_where_completed.Goals as goal

pub returns : goal.returns
returns c = exactly
