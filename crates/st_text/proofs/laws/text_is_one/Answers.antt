-- The lines of a text can be read back off its bytes, and the bundle off the lines.
use Rattle.st_text.proofs.OneBundle.{text_one}
use Rattle.st_text.proofs.laws.text_is_one.Goals as goal

pub returns : goal.returns
returns c = text_one
