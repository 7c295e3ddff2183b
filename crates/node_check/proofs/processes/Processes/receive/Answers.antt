-- The row is refreshed, and then the message is taken from its queue.
use Rattle.std.proofs.Common.{[], get_or, refl}
use Rattle.st_core.specs.declared.types.Act.TheVariants as act
use Rattle.st_mail.specs.Mail.{queue_without}
use Rattle.node_machine.specs.Node.{Common}
use Rattle.node_check.proofs.Keeping.{done_by}
use Rattle.node_check.proofs.processes.Processes.receive.Goals as goal

pub returns : goal.returns
returns c = λ pids rising kept at.
    let box = get_or c.refresh.new.self.queues.boxes c.args.place [] in
    done_by _ c.args.place c.args.me (Common (act.Receive c.args.me c.args.want.now))
    c.take.result rising at refl (c.refresh.ensures.refreshed pids kept at) c.index_mut.result.now
    c.index_mut.ensures.value c.take.new.self (queue_without c.take-taken.result box)
    (record { receiver = refl; reached = λ t x. refl })
    (c.take.ensures box c.args.want.now c.take-taken.ensures.took)
    refl c.take-taken.ensures.boxes refl
