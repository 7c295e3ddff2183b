-- The log grows by exactly what the one call of the other device took; without a call nothing
-- passed.
use Rattle.std.proofs.Common.{[], sym, ◌∙◌}
use Rattle.std.proofs.lemmas.List.{append-nil}
use Rattle.st_core.specs.Device.{NoCall, OneMore}
use Rattle.st_core.proofs.device.recorder.RecorderByteSink.put.Goals as goal

pub returns-then-self-clause-wrote : goal.returns-then-self-clause-wrote
returns-then-self-clause-wrote g c = (sym (append-nil _), NoCall _)

pub returns-then-is_empty-clause-wrote : goal.returns-then-is_empty-clause-wrote
returns-then-is_empty-clause-wrote g c = (sym (append-nil _), NoCall _)

pub returns-then-is_err-clause-wrote : goal.returns-then-is_err-clause-wrote
returns-then-is_err-clause-wrote g c =
    rw (← c.self.view_is) (c.reserve.ensures.items ∙ sym (append-nil _), NoCall _)

pub returns-in-Ok-clause-wrote : goal.returns-in-Ok-clause-wrote
returns-in-Ok-clause-wrote g c =
    let grown = rw (c.unwrap.ensures, c.reserve.ensures.items) at
    c.extend_from_slice.ensures.items in
    rw (← c.self.view_is) (grown, OneMore _ _ _ [] _ (NoCall _) c.in-Ok.ensures.wrote)

pub returns-in-Err-clause-wrote : goal.returns-in-Err-clause-wrote
returns-in-Err-clause-wrote g c =
    rw (← c.self.view_is) (
      c.reserve.ensures.items ∙ sym (append-nil _),
      OneMore _ _ _ [] [] (NoCall _) c.in-Err.ensures.wrote,
    )
