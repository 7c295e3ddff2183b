-- Lines without a fault add up to a bundle, one by one.
use Rattle.st_text.proofs.FaultlessText.{readable}
use Rattle.st_text.proofs.laws.text_or_fault.Goals as goal

pub returns : goal.returns
returns c = readable
