-- Only the origins under the stamp change.
use Rattle.std.proofs.Common.{◌∙◌, ap}
use Rattle.node_origins.specs.declared.origin.EventOrigins.{EventOrigins}
use Rattle.node_origins.specs.Summary.{either_origins}
use Rattle.node_origins.proofs.SuccessorTables.{added}
use Rattle.node_origins.proofs.successors.Successors.add.Goals as goal

pub returns-in-Ok : goal.returns-in-Ok
returns-in-Ok c =
    added c.args.self.now (record { origins = c.insert.new.self }) c.args.stamp c.or-all.result
    c.args.origins c.in-Ok.ensures.updates.0
    (c.or-all.ensures ∙ ap (λ (o : EventOrigins). either_origins o c.args.origins) c.at.ensures)
