-- A mailbox has as many messages as its stored list.
use Rattle.std.proofs.Common.{refl, ap, ◌∙◌}
use Rattle.st_mail.proofs.Boxes.{in_stored, len_is}
use Rattle.st_mail.proofs.mailboxes.Mailboxes.len.Goals as goal

pub len-requires : goal.len-requires
len-requires c = in_stored _ _ c.self.invariant _ (ap (λ m. m.boxes) c.self.view_is) c.args.mailbox
    c.requires

pub returns : goal.returns
returns c =
    c.len.ensures
    ∙ len_is _ _ c.self.invariant _ (ap (λ m. m.boxes) c.self.view_is) c.args.mailbox c.requires _
    refl
