-- The origins from the four sources are all that are allowed.
use Rattle.std.proofs.Common.{◌⊎◌, sym, subst}
use Rattle.node_machine.specs.Origins.{Can, TokenOrigin}
use Rattle.node_origins.specs.Sources.{FromHome, FromPredecessor, FromReceive, FromRequest}
use Rattle.node_origins.specs.Summary.{IsSummary}
use Rattle.node_origins.proofs.CanSources.{can_source, FromSome, source_can}
use Rattle.node_origins.proofs.Summaries.{either_summary, same_summary}
use Rattle.node_origins.proofs.walk.stamp_origins.Goals as goal

pub returns : goal.returns
returns c =
    let es = c.args.events.now in
    let i = c.args.index in
    let front = subst (IsSummary (λ (h : TokenOrigin). FromPredecessor es i h ⊎ FromReceive es i h))
    (sym c.or-tokens.ensures)
    (either_summary (FromPredecessor es i) (FromReceive es i) c.origins_of-succeeded.result
    c.receive_before-received.result
    (c.origins_of-succeeded.ensures es i c.requires.successors c.requires.at)
    c.receive_before-received.ensures) in
    let back = subst (IsSummary (λ (h : TokenOrigin). FromRequest es i h ⊎ FromHome es i h))
    (sym c.or-others.ensures)
    (either_summary (FromRequest es i) (FromHome es i) c.request_before-requested.result
    c.home-home.result c.request_before-requested.ensures
    (c.home-home.ensures es c.requires.firsts c.requires.at)) in
    same_summary (FromSome es i) (Can es i) (source_can es i) (can_source es i) c.or.result
    (subst (IsSummary (FromSome es i)) (sym c.or.ensures)
    (either_summary (λ (h : TokenOrigin). FromPredecessor es i h ⊎ FromReceive es i h)
    (λ (h : TokenOrigin). FromRequest es i h ⊎ FromHome es i h) c.or-tokens.result
    c.or-others.result front back))
