-- A receive's token comes with its message, and a stamp's token has the stamp's origins.
use Rattle.std.proofs.Common.{ap}
use Rattle.st_core.specs.declared.types.Kind.{Kind}
use Rattle.st_core.specs.declared.types.Kind.TheVariants as kind
use Rattle.st_core.specs.Event.{kind_eq}
use Rattle.node_origins.proofs.SuccessorTables.{receive_origin, stamp_origin_at}
use Rattle.node_origins.proofs.TokenTables.{not_receive}
use Rattle.node_origins.proofs.successors.token_origins.Goals as goal

pub returns-in-Receive : goal.returns-in-Receive
returns-in-Receive c = λ es entry.
    receive_origin es c.args.index c.args.event
    (ap (λ (k : Kind). kind_eq k kind.Receive) c.in-Receive.is)

pub returns-in-Send : goal.returns-in-Send
returns-in-Send c = λ es entry.
    stamp_origin_at es c.args.index c.args.event
    (not_receive c.args.event.kind c.in-Send.is) c.args.origins entry
