-- A message of the wiped front is returned without its token, and each other message as it is
-- stored.
use Rattle.std.proofs.Common.{Some, option_copied, refl, ap, sym, ◌∙◌, arith}
use Rattle.st_mail.proofs.Boxes.{in_stored, in_counts, read_count, get_none, get_front, get_behind}
use Rattle.st_mail.proofs.mailboxes.Mailboxes.get.Goals as goal

pub get-requires : goal.get-requires
get-requires c = in_stored _ _ c.self.invariant _ (ap (λ m. m.boxes) c.self.view_is) c.args.mailbox
    c.requires

pub returns-in_err-message : goal.returns-in_err-message
returns-in_err-message c =
    rw c.from_residual.ensures
    (sym (get_none _ _ c.self.invariant _ (ap (λ m. m.boxes) c.self.view_is) c.args.mailbox
    c.requires _ refl
    c.args.place (sym c.get.ensures ∙ ap option_copied (c.in_err-message.was))))

pub index-requires : goal.index-requires
index-requires c =
    let within = in_counts _ _ c.self.invariant _ (ap (λ m. m.boxes) c.self.view_is) c.args.mailbox
    c.requires in
    omega (arith, within, c.self.inside.wiped.ok.0)

pub returns-then-place-index : goal.returns-then-place-index
returns-then-place-index c =
    let count =
    read_count _ _ c.self.invariant _ (ap (λ m. m.boxes) c.self.view_is) c.args.mailbox c.requires
    c.index.result.now
    c.index.ensures in
    ap (λ m. Some m) c.without_token.ensures
    ∙ sym (get_front _ _ c.self.invariant _ (ap (λ m. m.boxes) c.self.view_is) c.args.mailbox
    c.requires _ count
    c.args.place _ (sym c.get.ensures ∙ ap option_copied (c.in_ok-message.was))
    c.if-place-index.true)

pub returns-else-place-index : goal.returns-else-place-index
returns-else-place-index c =
    let count =
    read_count _ _ c.self.invariant _ (ap (λ m. m.boxes) c.self.view_is) c.args.mailbox c.requires
    c.index.result.now
    c.index.ensures in
    sym (ap option_copied (c.in_ok-message.was))
    ∙ c.get.ensures
    ∙ sym (get_behind _ _ c.self.invariant _ (ap (λ m. m.boxes) c.self.view_is) c.args.mailbox
    c.requires _ count
    c.args.place c.if-place-index.false)
