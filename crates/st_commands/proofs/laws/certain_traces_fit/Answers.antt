-- The finding on streams that are plain or fully shown is a certificate.
use Rattle.st_commands.proofs.AuditOutputs as outputs
use Rattle.st_commands.proofs.laws.certain_traces_fit.Goals as goal

pub returns : goal.returns
returns c = outputs.certain_traces_fit c.certain_streams_fit.ensures
