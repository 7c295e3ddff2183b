-- Each line of a bundle's text passes each test, and no pid is unlisted at the end.
use Rattle.st_text.proofs.GoodText.{text_sound}
use Rattle.st_text.proofs.laws.text_has_no_fault.Goals as goal

pub returns : goal.returns
returns c = text_sound
