-- A prefix that is stripped stood at the front.
use Rattle.st_text.proofs.Numbers.{after_is}
use Rattle.st_text.proofs.words.after.Goals as goal

pub returns : goal.returns
returns c = after_is c.args.word.now c.args.bytes.now c.strip_prefix.result
    c.strip_prefix.ensures.cases
