-- `find` returns the place of the picked message. The message stored there is the picked one,
-- except that its token is gone if the place is in the wiped front.
use Rattle.std.proofs.Common.{◌≡◌, ◌-◌, List, Some, refl, sym, ◌∙◌, ap, arith}
use Rattle.st_core.specs.declared.types.Message.{Message}
use Rattle.st_mail.specs.Mail.{queue_in}
use Rattle.st_mail.proofs.Boxes.{in_stored, in_counts, read_count, get_some, get_front, get_behind}
use Rattle.st_mail.proofs.Boxes.{taken_behind, taken_behind_fronts, taken_front, taken_front_fronts}
use Rattle.st_mail.proofs.Picks.{place_picked, picked_at, given_at}
use Rattle.st_mail.proofs.mailboxes.Mailboxes.take.Goals as goal

pub take_at-requires : goal.take_at-requires
take_at-requires c = in_stored _ _ c.self.invariant _ (ap (λ m. m.boxes) c.self.view_is)
    c.args.mailbox c.requires

pub unwrap-message-requires : goal.unwrap-message-requires
unwrap-message-requires c =
    let queue : List Message = queue_in c.args.self.now.boxes c.args.mailbox in
    let found : place_picked c.args.want.now queue ≡ Some c.in-Some.place =
    sym c.find.ensures ∙ c.in-Some.is in
    let at = picked_at c.args.want.now queue c.in-Some.place found in
    rw (c.take_at.ensures.value
    ∙ get_some _ _ c.self.invariant _ (ap (λ m. m.boxes) c.self.view_is) c.args.mailbox c.requires _
    refl
    c.in-Some.place at.message at.stands)
    refl

pub index-wiped-requires : goal.index-wiped-requires
index-wiped-requires c =
    let within = in_counts _ _ c.self.invariant _ (ap (λ m. m.boxes) c.self.view_is) c.args.mailbox
    c.requires in
    omega (arith, within, c.self.inside.wiped.ok.0)

pub index_mut-requires : goal.index_mut-requires
index_mut-requires c =
    let within = in_counts _ _ c.self.invariant _ (ap (λ m. m.boxes) c.self.view_is) c.args.mailbox
    c.requires in
    omega (arith, within, c.self.inside.wiped.ok.0)

-- NOTHING IS FOUND

pub count_miss-requires : goal.count_miss-requires
count_miss-requires c =
    in_stored _ _ c.self.invariant _ (ap (λ m. m.boxes) c.self.view_is) c.args.mailbox c.requires

-- BEHIND THE WIPED FRONT

pub invariant_of-self-then-place-wiped : goal.invariant_of-self-then-place-wiped
invariant_of-self-then-place-wiped c =
    let count =
    read_count _ _ c.self.invariant _ (ap (λ m. m.boxes) c.self.view_is) c.args.mailbox c.requires
    c.index-wiped.result.now c.index-wiped.ensures in
    let taken = rw c.unwrap-message.ensures at c.take_at.ensures.taken in
    rw taken
    (taken_behind_fronts _ _ c.self.invariant _ (ap (λ m. m.boxes) c.self.view_is) c.args.mailbox
    c.requires _ count
    c.in-Some.place _ (sym c.take_at.ensures.value ∙ c.unwrap-message.ensures)
    c.if-place-wiped.true)

pub returns-then-place-wiped-clause-took : goal.returns-then-place-wiped-clause-took
returns-then-place-wiped-clause-took c =
    let count =
    read_count _ _ c.self.invariant _ (ap (λ m. m.boxes) c.self.view_is) c.args.mailbox c.requires
    c.index-wiped.result.now c.index-wiped.ensures in
    let queue : List Message = queue_in c.args.self.now.boxes c.args.mailbox in
    let found : place_picked c.args.want.now queue ≡ Some c.in-Some.place =
    sym c.find.ensures ∙ c.in-Some.is in
    given_at c.args.want.now queue c.in-Some.place c.unwrap-message.result found
    (get_behind _ _ c.self.invariant _ (ap (λ m. m.boxes) c.self.view_is) c.args.mailbox c.requires
    _ count
    c.in-Some.place c.if-place-wiped.true
    ∙ sym c.take_at.ensures.value
    ∙ c.unwrap-message.ensures)

pub returns-then-place-wiped-clause-boxes : goal.returns-then-place-wiped-clause-boxes
returns-then-place-wiped-clause-boxes c =
    let count =
    read_count _ _ c.self.invariant _ (ap (λ m. m.boxes) c.self.view_is) c.args.mailbox c.requires
    c.index-wiped.result.now c.index-wiped.ensures in
    let taken = rw c.unwrap-message.ensures at c.take_at.ensures.taken in
    rw taken
    (taken_behind _ _ c.self.invariant _ (ap (λ m. m.boxes) c.self.view_is) c.args.mailbox
    c.requires _ count
    c.in-Some.place _ (sym c.take_at.ensures.value ∙ c.unwrap-message.ensures)
    c.if-place-wiped.true)

-- IN THE WIPED FRONT

pub invariant_of-self-2 : goal.invariant_of-self-2
invariant_of-self-2 c =
    let count =
    read_count _ _ c.self.invariant _ (ap (λ m. m.boxes) c.self.view_is) c.args.mailbox c.requires
    c.index-wiped.result.now c.index-wiped.ensures in
    let taken = rw c.unwrap-message.ensures at c.take_at.ensures.taken in
    rw taken
    (taken_front_fronts _ _ c.self.invariant _ (ap (λ m. m.boxes) c.self.view_is) c.args.mailbox
    c.requires _ count
    c.in-Some.place _ (sym c.take_at.ensures.value ∙ c.unwrap-message.ensures)
    (c.index-wiped.result.now - 1)
    (omega (arith, c.if-place-wiped.false)))

pub returns-clause-took : goal.returns-clause-took
returns-clause-took c =
    let count =
    read_count _ _ c.self.invariant _ (ap (λ m. m.boxes) c.self.view_is) c.args.mailbox c.requires
    c.index-wiped.result.now c.index-wiped.ensures in
    let queue : List Message = queue_in c.args.self.now.boxes c.args.mailbox in
    let found : place_picked c.args.want.now queue ≡ Some c.in-Some.place =
    sym c.find.ensures ∙ c.in-Some.is in
    given_at c.args.want.now queue c.in-Some.place c.without_token.result found
    (get_front _ _ c.self.invariant _ (ap (λ m. m.boxes) c.self.view_is) c.args.mailbox c.requires _
    count
    c.in-Some.place _ (sym c.take_at.ensures.value ∙ c.unwrap-message.ensures)
    c.if-place-wiped.false
    ∙ ap (λ m. Some m) (sym c.without_token.ensures))

pub returns-clause-boxes : goal.returns-clause-boxes
returns-clause-boxes c =
    let count =
    read_count _ _ c.self.invariant _ (ap (λ m. m.boxes) c.self.view_is) c.args.mailbox c.requires
    c.index-wiped.result.now c.index-wiped.ensures in
    let taken = rw c.unwrap-message.ensures at c.take_at.ensures.taken in
    rw taken
    (taken_front _ _ c.self.invariant _ (ap (λ m. m.boxes) c.self.view_is) c.args.mailbox c.requires
    _ count
    c.in-Some.place _ (sym c.take_at.ensures.value ∙ c.unwrap-message.ensures)
    (c.index-wiped.result.now - 1)
    (omega (arith, c.if-place-wiped.false)) c.if-place-wiped.false)
