-- Each act is done by its own function, which doesn't depend on the actor that it names.
use Rattle.std.proofs.Common.{sym, subst}
use Rattle.st_mail.specs.Actor.{process_of}
use Rattle.node_machine.specs.Node.{Common}
use Rattle.node_check.specs.Steps.{IsNodePart}
use Rattle.node_check.proofs.Parts.{print_of}
use Rattle.node_check.proofs.local.Local.act.Goals as goal

pub returns-in-Print : goal.returns-in-Print
returns-in-Print c = λ queue.
    let r = process_of c.args.me c.args.self.now queue in
    subst (λ a. IsNodePart r (Common a) c.print.new.self queue c.print.result) (sym c.in-Print.is)
    (print_of r c.args.me c.in-Print.field-0 c.in-Print.value c.print.new.self queue c.print.result
    (c.print.ensures queue))
