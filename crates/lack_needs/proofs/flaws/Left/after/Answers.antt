-- One more event raises the greatest count to its own, and leaves its own prev or count.
use Rattle.std.proofs.Common.{max, ◌∙◌, ap}
use Rattle.lack_needs.specs.declared.flaws.Left.{Left}
use Rattle.lack_needs.proofs.Leaving.{left_push}
use Rattle.lack_needs.proofs.flaws.Left.after.Goals as goal

pub returns : goal.returns
returns c = λ es is. left_push es c.args.event.now _ _
    (c.max.ensures ∙ ap (λ (l : Left). max l.greatest c.args.event.now.serial.this) is)
    c.prev_left.ensures
