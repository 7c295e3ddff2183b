-- If the token has the label, the act is a print.
use Rattle.std.proofs.Common.{ap, sym, ◌∙◌}
use Rattle.st_core.specs.State.{LocalState}
use Rattle.st_mail.specs.Actor.{process_of}
use Rattle.node_check.proofs.Parts.{print_at_part}
use Rattle.node_check.proofs.local.Local.print_at.Goals as goal

pub returns-in-Some : goal.returns-in-Some
returns-in-Some c = λ queue.
    print_at_part (process_of c.args.me c.args.self.now queue) c.args.me c.args.label c.args.value
    c.in-Some.token c.print.new.self queue c.print.result
    (ap (λ (l : LocalState). l.token) (sym c.self.view_is) ∙ c.in-Some.is)
    (rw c.in-Some.is at (sym c.eq.ensures ∙ c.if-eq.true)) (c.print.ensures queue)
