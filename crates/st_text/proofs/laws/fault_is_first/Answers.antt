-- Both definitions go through the lines from the front, and stop at the first line that fails.
use Rattle.st_text.proofs.FirstFault.{fails_first, first_unknown}
use Rattle.st_text.proofs.laws.fault_is_first.Goals as goal

pub returns-clause-line : goal.returns-clause-line
returns-clause-line c = fails_first

pub returns-clause-unknown : goal.returns-clause-unknown
returns-clause-unknown c = λ ps ls f e. first_unknown ps 1 ls f e
