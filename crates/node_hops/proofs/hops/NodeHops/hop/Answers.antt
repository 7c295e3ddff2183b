-- The hop is that of the definition, whose claim is true.
use Rattle.std.proofs.Common.{sym, subst}
use Rattle.st_core.specs.Streams.{IsStreams}
use Rattle.node_hops.specs.Claims.{IsTrueOnNode}
use Rattle.node_hops.proofs.Claims.{hop_true}
use Rattle.node_hops.proofs.hops.NodeHops.hop.Goals as goal

pub returns-clause-truth : goal.returns-clause-truth
returns-clause-truth c =
    subst (IsTrueOnNode c.args.self.now c.args.pid c.args.index c.args.event.now)
    (sym c.find_hop.ensures)
    (hop_true c.args.self.now c.args.pid c.args.index c.args.event.now
    (subst IsStreams c.self.view_is c.events.ensures.streams) c.requires)
