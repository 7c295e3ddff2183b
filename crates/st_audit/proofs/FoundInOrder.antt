-- `append` takes at an item the next turn of the course of all items. So the construction is
-- on that course after the item, or the course ends there as the item was refused or stopped.
use Rattle.std.proofs.Common.{◌≡◌, ℕ, ◌+◌, ◌<◌, List, Some, Ok, Err, Result, get_or, length}
use Rattle.std.proofs.Common.{slice_get, take, refl, subst}
use Rattle.std.proofs.lemmas.Option.{slice_get-get_or}
use Rattle.st_core.specs.declared.types.Pid.{Pid}
use Rattle.st_core.specs.declared.types.Event.{Event}
use Rattle.st_core.specs.Pid.{IsRising}
use Rattle.st_core.specs.Run.{Stream, pids_of}
use Rattle.st_pair.specs.Links.{ProcessLinks}
use Rattle.st_order.specs.declared.item.Item.{Item}
use Rattle.st_order.specs.Items.{event_of, item_place}
use Rattle.st_plan.specs.Marks.{all_told}
use Rattle.st_plan.specs.Moves.{earlier_of, move_by}
use Rattle.st_audit.specs.declared.construction.Construction.{Construction}
use Rattle.st_audit.specs.declared.construction.Halt.{Halt}
use Rattle.st_audit.specs.declared.construction.Halt.TheVariants as halt
use Rattle.st_audit.specs.declared.finding.Finding.TheVariants as finding
use Rattle.st_audit.specs.declared.finding.Reason.{Reason}
use Rattle.st_audit.specs.declared.finding.Reason.TheVariants as reason
use Rattle.st_audit.specs.Construction.{IsFoundAt, Judged, Refused, Turn, end_of}
use Rattle.st_audit.specs.Progress.{ArePrepared, Meets, SaysNothing, item_turn}
use Rattle.st_audit.proofs.Course.{course_item, course_next, course_refused, course_stops}
use Rattle.st_audit.proofs.Course.{here_turn, IsOnCourse}
use Rattle.st_audit.proofs.MoveOutcomes.{all_told_turn}
use Rattle.st_audit.proofs.Track.{none}

-- the construction is on the course of these items, and item n is the next
module _ {top : ℕ} {streams : List Stream} {pairing : List ProcessLinks} {xs : List Item}
    (given : ArePrepared streams pairing xs) (n : ℕ) (within : n < length xs)
    (old : Construction top)
    (way : IsOnCourse top streams xs n old.world old.acts) where
  rising : IsRising (pids_of streams)
  rising = given.are_streams.draft.rising

  -- what `append` says of its result
  abbrev pub IsMetHere : Result (Unit {0}) Halt → Construction top → Type 0
  IsMetHere result new = (x : Item) (e : Event) → slice_get xs n ≡ Some x
      → event_of streams x ≡ Some e
      → Meets {T = Unit {0}} SaysNothing
      (item_turn streams all_told old (earlier_of streams (take n xs)) (move_by x e)) old result new

  abbrev next_turn : Turn
  next_turn = here_turn top streams rising xs given.order n none within old.world old.acts way

  met_turn : (result : Result (Unit {0}) Halt) (new : Construction top) → IsMetHere result new
      → Meets {T = Unit {0}} SaysNothing next_turn old result new
  met_turn result new met =
      let x = get_or xs n none in
      let here = course_item top streams rising xs given.order n none within old.world old.acts
      way in
      subst (λ t. Meets {T = Unit {0}} SaysNothing t old result new)
      (all_told_turn streams old (earlier_of streams (take n xs)) (move_by x here.event))
      (met x here.event (slice_get-get_or xs n none within) here.there)

  pub goes_on_course : (u : Unit {0}) (new : Construction top) → IsMetHere (Ok u) new
      → IsOnCourse top streams xs (n + 1) new.world new.acts
  goes_on_course u new met =
      let done = met_turn (Ok u) new met in
      course_next top streams rising xs given.order n none within old.world old.acts way new.world
      new.acts
      done.acts done.outcomes done.through done.after done.put

  -- the construction ends at the item, which is at this place
  module _ (place : Pid × ℕ) (is : place ≡ item_place (get_or xs n none)) (h : Halt)
      (new : Construction top)
      (met : IsMetHere (Err h) new) where
    found_refused : (r : Reason) → next_turn ≡ Refused r
        → IsFoundAt top streams (end_of top streams xs) (finding.Unfit place.0 place.1 r)
    found_refused r refused =
        subst (λ end. IsFoundAt top streams end (finding.Unfit place.0 place.1 r))
        (course_refused top streams rising xs given.order n none within old.world old.acts way place
        is r refused) refl

    pub found_uncaused : h ≡ halt.Uncaused
        → IsFoundAt top streams (end_of top streams xs)
        (finding.Unfit place.0 place.1 reason.Uncaused)
    found_uncaused same =
        found_refused reason.Uncaused
        (subst (λ h. Meets {T = Unit {0}} SaysNothing next_turn old (Err h) new) same
        (met_turn (Err h) new met))

    pub found_too_wide : h ≡ halt.TooWide
        → IsFoundAt top streams (end_of top streams xs)
        (finding.Unfit place.0 place.1 reason.TooWide)
    found_too_wide same =
        found_refused reason.TooWide
        (subst (λ h. Meets {T = Unit {0}} SaysNothing next_turn old (Err h) new) same
        (met_turn (Err h) new met))

    pub stops_there : h ≡ halt.Stopped → Judged new.acts (Some place) ≡ end_of top streams xs
    stops_there same =
        let stopped : Meets {T = Unit {0}} SaysNothing next_turn old (Err halt.Stopped) new =
        subst (λ h. Meets {T = Unit {0}} SaysNothing next_turn old (Err h) new) same
        (met_turn (Err h) new met) in
        course_stops top streams rising xs given.order n none within old.world old.acts way place is
        new.acts
        stopped.acts stopped.stopped stopped.put
