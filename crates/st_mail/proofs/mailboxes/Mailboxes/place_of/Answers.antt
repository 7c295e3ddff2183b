-- In the wiped front no message has a token, and behind it the messages are as they are stored.
use Rattle.std.proofs.Common.{refl, ap, sym, ◌∙◌, arith}
use Rattle.st_mail.specs.Mail.{bears_stamp}
use Rattle.st_mail.proofs.Boxes.{in_stored, in_counts, read_count, found_behind}
use Rattle.st_mail.proofs.mailboxes.Mailboxes.place_of.Goals as goal

pub index-requires : goal.index-requires
index-requires c =
    let within = in_counts _ _ c.self.invariant _ (ap (λ m. m.boxes) c.self.view_is) c.args.mailbox
    c.requires in
    omega (arith, within, c.self.inside.wiped.ok.0)

pub find_stamp-requires : goal.find_stamp-requires
find_stamp-requires c = in_stored _ _ c.self.invariant _ (ap (λ m. m.boxes) c.self.view_is)
    c.args.mailbox c.requires

pub returns : goal.returns
returns c =
    let count =
    read_count _ _ c.self.invariant _ (ap (λ m. m.boxes) c.self.view_is) c.args.mailbox c.requires
    c.index.result.now c.index.ensures in
    c.find_stamp.ensures
    ∙ sym (found_behind _ _ c.self.invariant _ (ap (λ m. m.boxes) c.self.view_is) c.args.mailbox
    c.requires _ count
    (bears_stamp c.args.from c.args.this) refl)
