-- The message taken and the messages left were all in the queue, so the process can meet their
-- tokens.
use Rattle.std.proofs.Common.{◌≡◌, List, [], sym, ◌∙◌, ap, arith}
use Rattle.std.proofs.lemmas.List.{get_or-set_same}
use Rattle.st_core.specs.declared.types.Message.{Message}
use Rattle.st_mail.specs.Mail.{queue_in, queue_without}
use Rattle.st_mail.proofs.Fits.{pick_fits, left_fits}
use Rattle.st_mail.proofs.actor.receive.Goals as goal

pub meet-requires : goal.meet-requires
meet-requires g c =
    let queue : List Message = queue_in c.args.queues.now.boxes c.args.mailbox in
    let picked = sym c.take.ensures.took ∙ c.in-Some.is in (
      omega arith,
      pick_fits g.row.TOP c.args.want.now queue c.in-Some.place c.in-Some.message c.requires.fit
          picked,
    )

pub returns-in-Some-clause-fit : goal.returns-in-Some-clause-fit
returns-in-Some-clause-fit g c =
    let boxes = c.args.queues.now.boxes in
    let queue : List Message = queue_in c.args.queues.now.boxes c.args.mailbox in
    let left : queue_in c.take.new.self.boxes c.args.mailbox ≡ queue_without c.take.result queue =
    ap (λ bs. queue_in bs c.args.mailbox) c.take.ensures.boxes
    ∙ get_or-set_same boxes c.args.mailbox (queue_without c.take.result queue) []
    c.requires.mailbox in
    rw left (left_fits g.row.TOP c.take.result queue c.requires.fit)
