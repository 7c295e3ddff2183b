-- The backs at a process's place are those of its stream, so the one at the event's index is the
-- event's.
use Rattle.std.proofs.Common.{sym, ◌∙◌, ap, slice_get, List}
use Rattle.std.proofs.lemmas.Option.{none-some}
use Rattle.st_core.specs.declared.types.Event.{Event}
use Rattle.st_pair.proofs.ForCallers.{missing_events}
use Rattle.st_chain.proofs.Backs.{back_read}
use Rattle.st_chain.proofs.chains.receive_before.Goals as goal

pub returns-in-None : goal.returns-in-None
returns-in-None c = λ e there stamps.
    absurd (none-some e (sym (ap (λ (l : List Event). slice_get l c.args.index)
    (missing_events c.args.streams.now c.args.pid c.in-None.ensures.missing)) ∙ there))

pub returns-in-Some : goal.returns-in-Some
returns-in-Some c = λ e there stamps. (rw c.as_slice.ensures at c.back_at.ensures)
    ∙ back_read c.args.streams.now c.args.pid _ c.args.index _ _ e c.requires.sound.draft.rising
    c.requires.backs
    c.in-Some.ensures.found c.index-backs-place.is there stamps
