-- After a wipe the wiped front is all messages in the mailbox.
use Rattle.std.proofs.Common.{◌≡◌, refl, sym, ap, length, ◌∙◌, arith}
use Rattle.st_mail.specs.Mail.{queue_in}
use Rattle.st_mail.proofs.Boxes.{in_counts, len_is, wiped, wiped_fronts}
use Rattle.st_mail.proofs.mailboxes.Mailboxes.wipe_tokens.Goals as goal

pub index_mut-requires : goal.index_mut-requires
index_mut-requires c =
    let within = in_counts _ _ c.self.invariant _ (ap (λ m. m.boxes) c.self.view_is) c.args.mailbox
    c.requires in
    omega (arith, within, c.self.inside.wiped.ok.0)

pub invariant_of-self : goal.invariant_of-self
invariant_of-self c =
    let all : c.len.result ≡ length (queue_in c.self.inside.queues.lists c.args.mailbox) =
    c.len.ensures
    ∙ sym (len_is _ _ c.self.invariant _ (ap (λ m. m.boxes) c.self.view_is) c.args.mailbox
    c.requires _ refl) in
    rw all (wiped_fronts _ _ c.self.invariant _ (ap (λ m. m.boxes) c.self.view_is) c.args.mailbox
    c.requires _ refl)

pub returns-clause-boxes : goal.returns-clause-boxes
returns-clause-boxes c =
    let all : c.len.result ≡ length (queue_in c.self.inside.queues.lists c.args.mailbox) =
    c.len.ensures
    ∙ sym (len_is _ _ c.self.invariant _ (ap (λ m. m.boxes) c.self.view_is) c.args.mailbox
    c.requires _ refl) in
    rw all (wiped _ _ c.self.invariant _ (ap (λ m. m.boxes) c.self.view_is) c.args.mailbox
    c.requires _ refl)
