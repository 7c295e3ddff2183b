-- The row is refreshed, and then the act is done on it.
use Rattle.std.proofs.Common.{[], get_or, refl, sym}
use Rattle.std.proofs.lemmas.List.{set-get_or}
use Rattle.node_machine.specs.Node.{Common}
use Rattle.node_check.proofs.Keeping.{done_by}
use Rattle.node_check.proofs.NodeSteps.{inner_alone}
use Rattle.node_check.proofs.processes.Processes.inner.Goals as goal

pub returns : goal.returns
returns c = λ pids rising kept at.
    let boxes = c.refresh.new.self.queues.boxes in
    let box = get_or boxes c.args.place [] in
    done_by _ c.args.place c.args.me (Common c.args.act.now) c.act.result rising at
    (sym c.requires.me) (c.refresh.ensures.refreshed pids kept at) c.index_mut.result.now
    c.index_mut.ensures.value
    c.act.new.self box (inner_alone c.args.act.now c.requires.inner) (c.act.ensures box)
    refl (sym (set-get_or boxes c.args.place [])) refl
