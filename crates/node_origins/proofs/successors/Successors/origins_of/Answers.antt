-- The table has, under a stamp, the origins of the tokens that it succeeds.
use Rattle.std.proofs.Common.{refl, sym, subst}
use Rattle.node_origins.specs.Sources.{FromPredecessor}
use Rattle.node_origins.specs.Summary.{IsSummary}
use Rattle.node_origins.specs.declared.successors.Successor.{Successor}
use Rattle.node_origins.proofs.SuccessorTables.{predecessors}
use Rattle.node_origins.proofs.successors.Successors.origins_of.Goals as goal

pub returns : goal.returns
returns c = λ es i are at.
    let e = c.args.stamp in
    let key : Successor = record {
      label = e.label.0;
      prev = e.serial.prev;
      this = e.serial.this;
    } in
    subst (IsSummary (FromPredecessor es i)) (sym c.at.ensures)
    (predecessors es i e at c.args.self.now are key refl refl refl)
