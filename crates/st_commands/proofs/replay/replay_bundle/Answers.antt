-- A bundle has acts or has none.
use Rattle.std.proofs.Common.{sym, ap, ◌∙◌}
use Rattle.std.specs.Prelude.{Some}
use Rattle.st_commands.specs.Output.{no_acts}
use Rattle.st_commands.specs.Parts.{OfNone}
use Rattle.st_commands.proofs.Deliveries.{tells_of_acts}
use Rattle.st_commands.proofs.replay.replay_bundle.Goals as goal

pub returns-in-Some : goal.returns-in-Some
returns-in-Some g c =
    tells_of_acts _ _ _ _ _ (c.in-Some.is ∙ ap Some (sym c.as_slice.ensures)) c.replay_acts.ensures

pub returns-in-None : goal.returns-in-None
returns-in-None g c =
    record { output = no_acts; owed = OfNone c.in-None.is; delivered = c.tell_line.ensures }
