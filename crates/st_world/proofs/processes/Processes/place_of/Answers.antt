-- The queue at the pid's number is that of the process.
use Rattle.std.proofs.Common.{option_and_then, position, sym, ◌∙◌, ap}
use Rattle.st_core.specs.State.{Process}
use Rattle.st_mail.specs.Mail.{bears_stamp}
use Rattle.st_world.proofs.Reading.{read_nothing, read_queue, read_stamped}
use Rattle.st_world.proofs.processes.Processes.place_of.Goals as goal

pub returns-in_default-clause-value : goal.returns-in_default-clause-value
returns-in_default-clause-value g c =
    ap (option_and_then (λ (r : Process).
    position (λ m. bears_stamp c.args.from c.args.this m.token) r.queue))
    (sym (read_nothing c.self.invariant c.self.view_is c.args.pid
    (sym c.number_of.ensures ∙ c.in_default.is)))

pub returns-clause-value : goal.returns-clause-value
returns-clause-value g c =
    let read = read_queue c.self.invariant c.self.view_is c.args.pid c.in-Some.number
    (sym c.number_of.ensures ∙ c.in-Some.is) in
    c.place_of.ensures
    ∙ ap
    (option_and_then (λ (r : Process).
    position (λ m. bears_stamp c.args.from c.args.this m.token) r.queue))
    (sym read)

pub returns-in_default-clause-stamped : goal.returns-in_default-clause-stamped
returns-in_default-clause-stamped g c = read_stamped c.self.invariant c.self.view_is c.args.pid

pub returns-clause-stamped : goal.returns-clause-stamped
returns-clause-stamped g c = read_stamped c.self.invariant c.self.view_is c.args.pid
