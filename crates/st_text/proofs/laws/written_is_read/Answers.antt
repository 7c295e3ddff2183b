-- A text within the limits has no fault, and is the text of one bundle alone.
use Rattle.st_text.proofs.OneBundle.{read_back}
use Rattle.st_text.proofs.laws.written_is_read.Goals as goal

pub returns : goal.returns
returns c = read_back
