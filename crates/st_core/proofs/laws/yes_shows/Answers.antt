-- `Yes` says that the acts show the streams, by its definition.
use Rattle.st_core.proofs.Exists as exists
use Rattle.st_core.proofs.laws.yes_shows.Goals as goal

pub returns : goal.returns
returns c = λ top streams acts.
    (exists.yes_shows top streams acts, exists.shows_yes top streams acts)
