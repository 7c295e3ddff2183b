-- The first send or print with another prev has the lowest count, since counts rise.
use Rattle.std.proofs.Common.{◌≡◌, true, get_or, sym, ◌∙◌, arith}
use Rattle.std.proofs.lemmas.Bool.{false≢true}
use Rattle.std.proofs.lemmas.Option.{slice_get_within}
use Rattle.st_core.specs.declared.types.Event.{Event}
use Rattle.st_pair.specs.Places.{is_stamp}
use Rattle.st_pair.proofs.ForCallers.{at_get_or, blank}
use Rattle.lack_pieces.proofs.Founding.{lowest_stamp}
use Rattle.lack_needs.proofs.ForCallers.{more_passed}
use Rattle.lack_pieces.proofs.unfounded_events.lowest_of_stamps.Goals as goal

pub returns-then-event-ne0 : goal.returns-then-event-ne0
returns-then-event-ne0 c =
    let es = c.args.events.now in
    let i = c.loop-event.event-index in
    lowest_stamp es i (get_or es i blank) c.requires (at_get_or es i blank c.loop-event-test.true)
    (sym c.is_stamp.ensures ∙ c.if-is_stamp.true) (omega (arith, c.if-event-ne0.true))
    c.loop-event.invariant

pub loop-event-preserved : goal.loop-event-preserved
loop-event-preserved c =
    let es = c.args.events.now in
    let i = c.loop-event.event-index in
    more_passed (λ _ (f : Event). is_stamp f ≡ true → f.serial.prev ≡ 0) es i (get_or es i blank)
    (at_get_or es i blank c.loop-event-test.true) c.loop-event.invariant
    (λ stamps. elim c.else-is_stamp.branch [
      | goal.else-is_stamp-via-then-is_stamp+else-event-ne0 w ↦ w.if-event-ne0.false
      | goal.else-is_stamp-via-else-is_stamp w ↦ absurd (false≢true (sym w.if-is_stamp.false
          ∙ (c.is_stamp.ensures ∙ stamps)))
    ])

pub returns : goal.returns
returns c = λ count s.
    let within = slice_get_within c.args.events.now s.place s.event s.at in
    let zero_prev = c.loop-event.invariant s.place s.event (omega (arith, within)) s.at s.stamps in
    omega (arith, zero_prev, s.above)
