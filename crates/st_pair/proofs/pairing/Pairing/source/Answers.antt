-- The link at an event's place is what the definition says of the event there.
use Rattle.std.proofs.Common.{◌∙◌, ap, option_and_then}
use Rattle.st_pair.specs.Links.{source_in}
use Rattle.st_pair.proofs.Linkage.{source_read}
use Rattle.st_pair.proofs.pairing.Pairing.source.Goals as goal

pub returns-in-None : goal.returns-in-None
returns-in-None c = λ streams made. ap (option_and_then source_in) c.in-None.ensures
    ∙ source_read streams _ c.args.pid c.args.index made

pub returns-in-Some : goal.returns-in-Some
returns-in-Some c = λ streams made. c.source.ensures ∙ ap (option_and_then source_in)
    c.in-Some.ensures
    ∙ source_read streams _ c.args.pid c.args.index made
