-- The receive of a send is found as the send of a receive is.
use Rattle.std.proofs.Common.{rules, ap}
use Rattle.st_core.specs.declared.types.Kind.TheVariants as kind
use Rattle.st_core.specs.Event.{kind_eq}
use Rattle.node_streams.proofs.partners.MessageEnds.partner.Goals as goal

pub returns-in-Send : goal.returns-in-Send
returns-in-Send c = λ before sent received.
    let number = sent (ap (λ k. kind_eq k kind.Send) c.in-Send.is) in
    search rules
