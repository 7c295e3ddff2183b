-- Streams are a draft, so what the draft's `place_of` returns holds of them.
use Rattle.st_core.proofs.streams.Streams.place_of.Goals as goal

pub returns-clause-missing : goal.returns-clause-missing
returns-clause-missing c = rw (← c.self.view_is) c.place_of.ensures.missing
