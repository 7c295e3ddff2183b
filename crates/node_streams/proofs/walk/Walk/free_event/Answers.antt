-- The process at the place has the events and sends that are looked up.
use Rattle.std.proofs.Common.{refl, sym, ◌∙◌, ap, subst}
use Rattle.std.specs.List.{slice_get}
use Rattle.std.proofs.lemmas.Option.{same_Some, slice_get_read}
use Rattle.node_streams.specs.Order.{CanGo}
use Rattle.node_streams.specs.Tables.{AreOf}
use Rattle.node_streams.proofs.Turns.{if_none}
use Rattle.node_streams.proofs.walk.Walk.free_event.Goals as goal

pub returns : goal.returns
returns c =
    let streams = c.args.streams.now in
    let q = c.in-Some.field-0.now in
    let look = c.in-Some.ensures.lookup in
    let here = sym (ap (λ ps. slice_get ps c.args.place) c.pids.ensures.value)
    ∙ slice_get_read c.pids.result.now _ c.args.place q refl look.3.0 look.1 in
    let are : AreOf streams c.args.place q c.events.result.now c.taken_of.result.now = record {
      place = here;
      own = c.events.ensures.value;
      sends = c.taken_of.ensures streams q c.requires.sound.draft.rising c.requires.taken here;
    } in
    record {
      free = λ order at. c.free_event_of.ensures.free order q at are;
      none = λ order at. if_none c.free_event_of.result
          (λ stays p at_p. subst (λ r. CanGo streams order r → ⊥) (same_Some q p (sym here ∙ at_p))
          stays)
          (c.free_event_of.ensures.none order q at are);
    }
