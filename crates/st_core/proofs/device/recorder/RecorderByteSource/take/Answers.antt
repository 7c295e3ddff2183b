-- The log grows by exactly what the one call of the other device gave; without a call nothing
-- passed.
use Rattle.std.proofs.Common.{[], sym, ◌∙◌}
use Rattle.std.proofs.lemmas.List.{append-nil}
use Rattle.st_core.specs.Device.{NoCall, OneMore}
use Rattle.st_core.proofs.device.recorder.RecorderByteSource.take.Goals as goal

pub returns-then-self-clause-given : goal.returns-then-self-clause-given
returns-then-self-clause-given g c = (sym (append-nil _), NoCall _)

pub returns-then-is_empty-clause-given : goal.returns-then-is_empty-clause-given
returns-then-is_empty-clause-given g c = (sym (append-nil _), NoCall _)

pub returns-then-is_err-clause-given : goal.returns-then-is_err-clause-given
returns-then-is_err-clause-given g c =
    rw (← c.self.view_is) (c.reserve.ensures.items ∙ sym (append-nil _), NoCall _)

pub returns-in-Ok-clause-given : goal.returns-in-Ok-clause-given
returns-in-Ok-clause-given g c =
    let grown = rw (c.unwrap.ensures, c.reserve.ensures.items) at
    c.extend_from_slice.ensures.items in
    rw (← c.self.view_is) (grown, OneMore _ _ _ [] _ (NoCall _) c.in-Ok.ensures.given)

pub returns-in-Err-clause-given : goal.returns-in-Err-clause-given
returns-in-Err-clause-given g c =
    rw (← c.self.view_is) (
      c.reserve.ensures.items ∙ sym (append-nil _),
      OneMore _ _ _ [] [] (NoCall _) c.in-Err.ensures.given,
    )
