-- The test looks at no token, so it finds the same place in the stored list.
use Rattle.std.proofs.Common.{◌==◌, refl, ap, ◌∙◌}
use Rattle.st_core.specs.declared.types.Message.{Message}
use Rattle.st_mail.proofs.Boxes.{in_stored, found}
use Rattle.st_mail.proofs.mailboxes.Mailboxes.find_value.Goals as goal

pub find_value-requires : goal.find_value-requires
find_value-requires c = in_stored _ _ c.self.invariant _ (ap (λ m. m.boxes) c.self.view_is)
    c.args.mailbox c.requires

pub returns : goal.returns
returns c =
    c.find_value.ensures
    ∙ found _ _ c.self.invariant _ (ap (λ m. m.boxes) c.self.view_is) c.args.mailbox c.requires _
    refl
    (λ (m : Message). m.value == c.args.value) (λ m. refl)
