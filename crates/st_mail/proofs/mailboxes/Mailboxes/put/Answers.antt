-- A message joins the mailbox behind the wiped front, as it joins the stored list.
use Rattle.std.proofs.Common.{refl, ap, ◌∙◌}
use Rattle.st_mail.specs.Wiped.{fronts_wiped}
use Rattle.st_mail.proofs.Boxes.{in_stored, pushed, pushed_fronts}
use Rattle.st_mail.proofs.mailboxes.Mailboxes.put.Goals as goal

pub push_back-requires : goal.push_back-requires
push_back-requires c = in_stored _ _ c.self.invariant _ (ap (λ m. m.boxes) c.self.view_is)
    c.args.mailbox c.requires

pub invariant_of-self-2 : goal.invariant_of-self-2
invariant_of-self-2 c =
    rw c.in_ok-push_back.ensures.pushed
    (pushed_fronts _ _ c.self.invariant _ (ap (λ m. m.boxes) c.self.view_is) c.args.mailbox
    c.requires _ refl c.args.message)

pub returns-clause-ok : goal.returns-clause-ok
returns-clause-ok c =
    ap (fronts_wiped c.self.inside.wiped.items) c.in_ok-push_back.ensures.pushed
    ∙ pushed _ _ c.self.invariant _ (ap (λ m. m.boxes) c.self.view_is) c.args.mailbox c.requires _
    refl c.args.message
