-- A bundle has acts or has none.
use Rattle.std.proofs.Common.{sym, ap, ◌∙◌}
use Rattle.std.specs.Prelude.{Some}
use Rattle.st_commands.specs.Output.{no_acts}
use Rattle.st_commands.proofs.ForCallers.{tells_as}
use Rattle.seqtool_commands.specs.NodeCheck.{OfActs, OfNoActs}
use Rattle.seqtool_commands.proofs.check_node.check_bundle.Goals as goal

pub returns-in-Some : goal.returns-in-Some
returns-in-Some g c =
    tells_as _ _ (λ out is. OfActs _ out (c.in-Some.is ∙ ap Some (sym c.as_slice.ensures)) is)
    c.check_acts.ensures

pub returns-in-None : goal.returns-in-None
returns-in-None g c =
    record { output = no_acts; owed = OfNoActs c.in-None.is; delivered = c.tell_line.ensures }
