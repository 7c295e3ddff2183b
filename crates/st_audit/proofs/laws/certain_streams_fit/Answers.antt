-- The construction goes through plain streams, and a run that reports everything has plain
-- streams.
use Rattle.st_audit.proofs.Certificates.{certain_streams_fit}
use Rattle.st_audit.proofs.laws.certain_streams_fit.Goals as goal

pub returns : goal.returns
returns c = certain_streams_fit
