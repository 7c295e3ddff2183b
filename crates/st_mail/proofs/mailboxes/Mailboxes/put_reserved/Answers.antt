-- A message joins the mailbox behind the wiped front, as it joins the stored list.
use Rattle.std.proofs.Common.{refl, ap, ◌∙◌}
use Rattle.st_mail.specs.Wiped.{fronts_wiped}
use Rattle.st_mail.proofs.Boxes.{in_stored, pushed, pushed_fronts}
use Rattle.st_mail.proofs.mailboxes.Mailboxes.put_reserved.Goals as goal

pub push_reserved-requires-clause-in_range : goal.push_reserved-requires-clause-in_range
push_reserved-requires-clause-in_range c =
    in_stored _ _ c.self.invariant _ (ap (λ m. m.boxes) c.self.view_is) c.args.mailbox
    c.requires.within

pub invariant_of-self : goal.invariant_of-self
invariant_of-self c =
    rw c.push_reserved.ensures.pushed
    (pushed_fronts _ _ c.self.invariant _ (ap (λ m. m.boxes) c.self.view_is) c.args.mailbox
    c.requires.within _ refl
    c.args.message)

pub returns-clause-boxes : goal.returns-clause-boxes
returns-clause-boxes c =
    ap (fronts_wiped c.self.inside.wiped.items) c.push_reserved.ensures.pushed
    ∙ pushed _ _ c.self.invariant _ (ap (λ m. m.boxes) c.self.view_is) c.args.mailbox
    c.requires.within _ refl
    c.args.message
