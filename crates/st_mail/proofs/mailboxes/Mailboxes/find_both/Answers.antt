-- The test looks at no token, so it finds the same place in the stored list.
use Rattle.std.proofs.Common.{◌==◌, ◌&&◌, refl, ap, ◌∙◌}
use Rattle.st_core.specs.declared.types.Message.{Message}
use Rattle.st_core.specs.Pid.{pid_eq}
use Rattle.st_mail.proofs.Boxes.{in_stored, found}
use Rattle.st_mail.proofs.mailboxes.Mailboxes.find_both.Goals as goal

pub find_both-requires : goal.find_both-requires
find_both-requires c = in_stored _ _ c.self.invariant _ (ap (λ m. m.boxes) c.self.view_is)
    c.args.mailbox c.requires

pub returns : goal.returns
returns c =
    c.find_both.ensures
    ∙ found _ _ c.self.invariant _ (ap (λ m. m.boxes) c.self.view_is) c.args.mailbox c.requires _
    refl
    (λ (m : Message). pid_eq m.from c.args.from && m.value == c.args.value) (λ m. refl)
