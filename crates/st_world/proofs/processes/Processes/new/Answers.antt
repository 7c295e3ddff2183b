-- The rows of a new world are the zero state, in which each process is sound.
use Rattle.std.proofs.Common.{length, [], rules, inr}
use Rattle.std.proofs.lemmas.List.{length-replicate}
use Rattle.st_core.specs.State.{zero_local}
use Rattle.st_core.proofs.ForCallers.{zero_sound}
use Rattle.st_world.specs.Nodes.{tracers}
use Rattle.st_world.proofs.Kept.{flagged_zero}
use Rattle.st_world.proofs.RowLemmas.{zero_rows}
use Rattle.st_world.proofs.processes.Processes.new.Goals as goal

pub invariant_of-result : goal.invariant_of-result
invariant_of-result g c =
    let pids = c.args.pids.now in
    let nodes = c.in-Ok-new-2.nodes in
    let own = c.in-Ok-new-2.ensures in
    let marks = flagged_zero (tracers nodes) nodes.places (length pids) own.by_node.len
    own.untraced in
    rw (c.in-Ok.ensures, c.in-Ok-zeros.ensures, c.in-Ok-new.ensures.empty) (record {
      rows = rw marks (record {
        aligned = record {
          rising = search rules;
          locals_len = length-replicate (length pids) zero_local;
          queues_len = length-replicate (length pids) [];
        };
        sound = rw (zero_rows pids) (zero_sound g.row.TOP pids);
      });
      locals_len = length-replicate (length pids) zero_local;
      by_node = own.by_node;
      listed = λ i below. inr (own.listed i below);
    })

pub returns-clause-zero : goal.returns-clause-zero
returns-clause-zero g c =
    let pids = c.args.pids.now in
    let nodes = c.in-Ok-new-2.nodes in
    let own = c.in-Ok-new-2.ensures in
    let marks = flagged_zero (tracers nodes) nodes.places (length pids) own.by_node.len
    own.untraced in
    rw (c.in-Ok.ensures, c.in-Ok-zeros.ensures, c.in-Ok-new.ensures.empty)
    (rw marks (zero_rows c.args.pids.now))
