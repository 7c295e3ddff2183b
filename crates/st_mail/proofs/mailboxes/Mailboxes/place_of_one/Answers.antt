-- If no message was wiped, the stored list is the mailbox.
use Rattle.std.proofs.Common.{◌≡◌, ℕ, ap, sym, ◌∙◌, arith, position, subst}
use Rattle.st_core.specs.declared.types.Message.{Message}
use Rattle.st_arena.specs.Calls.{PassesOnce}
use Rattle.st_mail.specs.Mail.{queue_in, bears_stamp}
use Rattle.st_mail.specs.Wiped.{front_wiped}
use Rattle.st_mail.proofs.Boxes.{in_stored, in_counts, read_count, queue_is}
use Rattle.st_mail.proofs.mailboxes.Mailboxes.place_of_one.Goals as goal

pub index-requires : goal.index-requires
index-requires c =
    let within =
    in_counts _ _ c.self.invariant _ (ap (λ m. m.boxes) c.self.view_is) c.args.mailbox
    c.requires.within in
    omega (arith, within, c.self.inside.wiped.ok.0)

pub find_one_stamp-requires-clause-within : goal.find_one_stamp-requires-clause-within
find_one_stamp-requires-clause-within c =
    in_stored _ _ c.self.invariant _ (ap (λ m. m.boxes) c.self.view_is) c.args.mailbox
    c.requires.within

pub find_one_stamp-requires-clause-one : goal.find_one_stamp-requires-clause-one
find_one_stamp-requires-clause-one c =
    let bears = λ (m : Message). bears_stamp c.args.from c.args.this m.token in
    let list = queue_in c.self.inside.queues.lists c.args.mailbox in
    let count = read_count _ _ c.self.invariant _ (ap (λ m. m.boxes) c.self.view_is) c.args.mailbox
    c.requires.within
    c.index.result.now c.index.ensures in
    let none : c.index.result.now ≡ 0 = omega (arith, c.if-index-gt0.false) in
    let same : queue_in c.args.self.now.boxes c.args.mailbox ≡ list =
    queue_is _ _ c.self.invariant _ (ap (λ m. m.boxes) c.self.view_is) c.args.mailbox
    c.requires.within
    c.index.result.now count
    ∙ ap (λ (n : ℕ). front_wiped n list) none in
    subst (PassesOnce bears) same c.requires.one

pub returns : goal.returns
returns c =
    let bears = λ (m : Message). bears_stamp c.args.from c.args.this m.token in
    let list = queue_in c.self.inside.queues.lists c.args.mailbox in
    let count = read_count _ _ c.self.invariant _ (ap (λ m. m.boxes) c.self.view_is) c.args.mailbox
    c.requires.within
    c.index.result.now c.index.ensures in
    let none : c.index.result.now ≡ 0 = omega (arith, c.if-index-gt0.false) in
    let same : queue_in c.args.self.now.boxes c.args.mailbox ≡ list =
    queue_is _ _ c.self.invariant _ (ap (λ m. m.boxes) c.self.view_is) c.args.mailbox
    c.requires.within
    c.index.result.now count
    ∙ ap (λ (n : ℕ). front_wiped n list) none in
    c.find_one_stamp.ensures ∙ ap (position bears) (sym same)
