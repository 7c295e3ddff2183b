-- Bytes are a text or have a fault; acts have a verdict and a run, and pairing refuses streams or
-- they have an order.
use Rattle.st_commands.proofs.OwedOutputs.{a_check, a_replay}
use Rattle.st_commands.proofs.ChartOutputs.{a_chart}
use Rattle.st_commands.proofs.laws.an_answer.Goals as goal

pub returns : goal.returns
returns c = record { check = a_check c.a_verdict.ensures; replay = a_replay; chart = a_chart }
