-- No message is wiped, and each stored list is empty.
use Rattle.st_mail.proofs.Boxes.{empty_fronts, empty_boxes}
use Rattle.st_mail.proofs.mailboxes.Mailboxes.new.Goals as goal

pub invariant_of-result : goal.invariant_of-result
invariant_of-result c =
    rw (c.in_ok-wiped.ensures.items_if_clones_equal (λ y e. e), c.in_ok-queues.ensures.empty)
    (empty_fronts c.args.count)

pub returns-clause-empty : goal.returns-clause-empty
returns-clause-empty c =
    rw (c.in_ok-wiped.ensures.items_if_clones_equal (λ y e. e), c.in_ok-queues.ensures.empty)
    (empty_boxes c.args.count)
