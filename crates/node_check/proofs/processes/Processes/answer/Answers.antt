-- The row is refreshed, and then the answer is taken from its queue.
use Rattle.std.proofs.Common.{[], get_or, refl}
use Rattle.st_mail.specs.Mail.{queue_without}
use Rattle.node_machine.specs.Node.{Answer}
use Rattle.node_check.proofs.Keeping.{done_by}
use Rattle.node_check.proofs.processes.Processes.answer.Goals as goal

pub returns : goal.returns
returns c = λ pids rising kept at.
    let box = get_or c.refresh.new.self.queues.boxes c.args.place [] in
    done_by _ c.args.place c.args.me (Answer c.args.me c.args.at) c.take_answer.result rising at
    refl (c.refresh.ensures.refreshed pids kept at) c.index_mut.result.now
    c.index_mut.ensures.value c.take_answer.new.self (queue_without c.take-taken.result box)
    (record { receiver = refl; reached = λ t x. refl })
    (c.take_answer.ensures box c.args.at c.take-taken.ensures.took)
    refl c.take-taken.ensures.boxes refl
