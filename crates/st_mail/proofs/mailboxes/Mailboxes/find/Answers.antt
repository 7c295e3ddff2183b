-- Each pattern is searched for by its test, or tested at its place.
use Rattle.std.proofs.Common.{◌==◌, ◌&&◌, List, refl, sym, ◌∙◌, ap}
use Rattle.st_core.specs.declared.types.Message.{Message}
use Rattle.st_core.specs.declared.types.Want.{Want}
use Rattle.st_core.specs.declared.types.Want.TheVariants as want
use Rattle.st_core.specs.Pid.{pid_eq}
use Rattle.st_mail.specs.Mail.{queue_in}
use Rattle.st_mail.proofs.Picks.{place_picked, firsts, placed, picked}
use Rattle.st_mail.proofs.mailboxes.Mailboxes.find.Goals as goal

pub returns-in-First : goal.returns-in-First
returns-in-First c =
    let queue : List Message = queue_in c.args.self.now.boxes c.args.mailbox in
    c.within.ensures
    ∙ firsts queue
    ∙ ap (λ (w : Want). place_picked w queue) (sym c.in-First.is)

pub returns-in-Place : goal.returns-in-Place
returns-in-Place c =
    let queue : List Message = queue_in c.args.self.now.boxes c.args.mailbox in
    c.within-in-Place.ensures
    ∙ placed c.in-Place.place queue
    ∙ ap (λ (w : Want). place_picked w queue) (sym c.in-Place.is)

pub returns-in-From : goal.returns-in-From
returns-in-From c =
    let queue : List Message = queue_in c.args.self.now.boxes c.args.mailbox in
    let from = c.in-From.from in
    c.find_from.ensures
    ∙ picked (want.From from) (λ (m : Message). pid_eq m.from from) queue (λ k m. refl)
    ∙ ap (λ (w : Want). place_picked w queue) (sym c.in-From.is)

pub returns-in-Value : goal.returns-in-Value
returns-in-Value c =
    let queue : List Message = queue_in c.args.self.now.boxes c.args.mailbox in
    let value = c.in-Value.value in
    c.find_value.ensures
    ∙ picked (want.Value value) (λ (m : Message). m.value == value) queue (λ k m. refl)
    ∙ ap (λ (w : Want). place_picked w queue) (sym c.in-Value.is)

pub returns-in-Both : goal.returns-in-Both
returns-in-Both c =
    let queue : List Message = queue_in c.args.self.now.boxes c.args.mailbox in
    let from = c.in-Both.from in
    let value = c.in-Both.value in
    c.find_both.ensures
    ∙ picked (want.Both from value) (λ (m : Message). pid_eq m.from from && m.value == value) queue
    (λ k m. refl)
    ∙ ap (λ (w : Want). place_picked w queue) (sym c.in-Both.is)
