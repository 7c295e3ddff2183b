-- The finding that plain streams determine is a certificate: no reason holds of an item, its acts
-- run and its event is the last of what they report, so the construction goes through, and its acts
-- show the streams.
use Rattle.std.proofs.Common.{◌≡◌, ◌⊎◌, ℕ, ◌+◌, ◌-◌, ◌<◌, ◌≤◌, zero, suc, List, [], ◌∷◌, ◌++◌}
use Rattle.std.proofs.Common.{take, length, get_or, Option, Some, None, slice_get, refl, sym, ◌∙◌}
use Rattle.std.proofs.Common.{subst, arith}
use Rattle.std.proofs.lemmas.Option.{same_Some, slice_get-get_or}
use Rattle.st_core.specs.declared.types.Pid.{Pid}
use Rattle.st_core.specs.declared.types.Event.{Event}
use Rattle.st_core.specs.declared.types.Act.{Act}
use Rattle.st_core.specs.State.{State, zero_state}
use Rattle.st_core.specs.Run.{Shows, Stream, pids_of}
use Rattle.st_core.specs.Streams.{IsStreams}
use Rattle.st_core.specs.Verdict as verdicts
use Rattle.st_check.specs.Answers.{verdict_of}
use Rattle.st_pair.proofs.ForCallers.{paired}
use Rattle.st_order.specs.declared.item.Item.{Item}
use Rattle.st_order.specs.Items.{event_of, item_place}
use Rattle.st_order.specs.Order.{order, IsOrder}
use Rattle.st_order.proofs.ForCallers.{an_order}
use Rattle.st_plan.specs.Build.{state_after, tracers_after}
use Rattle.st_plan.specs.Marks.{all_told}
use Rattle.st_plan.specs.Moves.{Move, earlier_of, move_by}
use Rattle.st_plan.specs.Plain.{IsPlain}
use Rattle.st_plan.specs.Full.{IsFullyShown}
use Rattle.st_plan.proofs.ForCallers.{only_whole, opens}
use Rattle.st_audit.specs.declared.finding.Finding.{Finding}
use Rattle.st_audit.specs.declared.finding.Finding.TheVariants as finding
use Rattle.st_audit.specs.declared.finding.Reason.TheVariants as reason
use Rattle.st_audit.specs.Construction.{end_of, turn}
use Rattle.st_audit.specs.Construction.{Judged, Through, IsAudit, IsFoundAt, IsFoundBy}
use Rattle.st_audit.specs.Findings.{HasCertificate, IsNo}
use Rattle.st_audit.proofs.Course.{begins_course, course_ends, course_item, course_next, IsOnCourse}
use Rattle.st_audit.proofs.Fullness.{certain_plain}
use Rattle.st_audit.proofs.MoveOutcomes.{marked_shown}
use Rattle.st_audit.proofs.NoItems.{accepts_nothing}
use Rattle.st_audit.proofs.PlainItems.{goes_marked, goes_tried, item_goes}
use Rattle.st_audit.proofs.Track.{none, on_track, shown_is_yes, track_next, track_shows, GoesNext}
use Rattle.st_audit.proofs.Track.{IsOnTrack}

-- ITEM BY ITEM

module _ (top : ℕ) (streams : List Stream) (sound : IsStreams streams) (plain : IsPlain top streams)
    (xs : List Item) (order : IsOrder streams xs) where
  module _ (n : ℕ) (x : Item) (at : slice_get xs n ≡ Some x) (s : State) (acts : List Act)
      (track : IsOnTrack top streams all_told (take n xs) s acts) where
    abbrev past : List Move
    past = earlier_of streams (take n xs)

    abbrev to : GoesNext top streams all_told past x s
    to = item_goes top streams all_told sound plain xs order n x at s acts track

    through : turn top streams all_told s past (move_by x to.event)
        ≡ Through to.goes.acts to.goes.outcomes
    through =
        let m = move_by x to.event in
        let g = to.goes in
        rw (
          to.in_turn,
          goes_tried top streams all_told sound plain xs order n x at s acts track,
          sym (marked_shown m g.outcomes)
              ∙ goes_marked top streams all_told sound plain xs order n x at s acts track,
        ) refl

    -- the turn of the item's event goes through
    through_at : (e : Event) → event_of streams x ≡ Some e
        → turn top streams all_told s past (move_by x e) ≡ Through to.goes.acts to.goes.outcomes
    through_at e there =
        subst (λ d. turn top streams all_told s past (move_by x d)
        ≡ Through to.goes.acts to.goes.outcomes)
        (same_Some to.event e (sym to.there ∙ there)) through

  -- the construction ends with acts that show the streams
  record EndsShown : Type 0 where
    pub acts : List Act
    pub place : Option (Pid × ℕ)
    pub shows : Shows top streams acts
    pub ends : end_of top streams xs ≡ Judged acts place

  goes_to_end : (k n : ℕ) (s : State) (acts : List Act) → n + k ≡ length xs → 0 < length xs
      → IsOnTrack top streams all_told (take n xs) s acts → IsOnCourse top streams xs n s acts
      → EndsShown
  goes_to_end zero n s acts all some track way =
      let past : length xs ≤ n = omega arith in
      let place = item_place (get_or xs (length xs - 1) none) in
      record {
        acts = acts;
        place = Some place;
        shows = subst (λ ss. Shows top ss acts) (only_whole streams)
            (track_shows top streams all_told sound plain.settled xs order n s acts past track);
        ends = sym (course_ends top streams xs n none s acts place way past some refl);
      }
  goes_to_end (suc k) n s acts all some track way =
      let within : n < length xs = omega arith in
      let x = get_or xs n none in
      let at = slice_get-get_or xs n none within in
      let rising = sound.draft.rising in
      let m = item_goes top streams all_told sound plain xs order n x at s acts track in
      let new = state_after s m.goes.outcomes in
      let now = acts ++ m.goes.acts in
      let here = course_item top streams rising xs order n none within s acts way in
      goes_to_end k (n + 1) new now (omega arith) some
      (track_next top streams all_told sound plain.settled xs order n x at s acts track m new now
      refl refl)
      (course_next top streams rising xs order n none within s acts way new now m.goes.acts
      m.goes.outcomes
      (through_at n x at s acts track here.event here.there) refl refl)

  ends_shown : 0 < length xs → EndsShown
  ends_shown some =
      let o = (opens top streams all_told).0 in
      let s = state_after (zero_state (pids_of streams)) o.os in
      goes_to_end (length xs) 0 s (tracers_after None (pids_of streams)) (omega arith) some
      (on_track top streams all_told s o.os o.runs refl)
      (begins_course top streams xs s o.os some o.runs refl)

-- THE FINDING

-- if no verdict on the acts but yes is possible, their finding is a certificate
judged_fits : (top : ℕ) (streams : List Stream) (acts : List Act) (place : Option (Pid × ℕ))
    (found : Finding)
    → ((v : verdicts.Verdict) → verdicts.IsVerdict top streams acts v → IsNo v → ⊥)
    → IsFoundAt top streams (Judged acts place) found → HasCertificate found
judged_fits top streams acts place (finding.Fits xs ps) sure is = tt
judged_fits top streams acts place (finding.Unfit p i (reason.NotReplayed xs v)) sure is =
    sure (verdict_of v) is.2 is.3
judged_fits top streams acts place f sure is = is

plain_fits : (top : ℕ) (streams : List Stream) (xs : List Item) (found : Finding)
    → IsStreams streams
    → IsPlain top streams → IsOrder streams xs → IsFoundAt top streams (end_of top streams xs) found
    → HasCertificate found
plain_fits top streams [] found sound plain order is =
    judged_fits top streams [] None found (λ v. accepts_nothing top streams v order) is
plain_fits top streams (x ∷ xs) found sound plain order is =
    let e = ends_shown top streams sound plain (x ∷ xs) order (omega arith) in
    judged_fits top streams e.acts e.place found (λ v. shown_is_yes top streams e.acts v e.shows)
    (subst (λ end. IsFoundAt top streams end found) e.ends is)

pub certain_streams_fit : (top : ℕ) (streams : List Stream) (found : Finding) → IsStreams streams
    → IsPlain top streams ⊎ IsFullyShown top streams → IsAudit top streams found
    → HasCertificate found
certain_streams_fit top streams found sound certain is =
    let rising = sound.draft.rising in
    let plain = certain_plain top streams rising certain in
    let accepted = plain.settled.accepted in
    plain_fits top streams (order streams) found sound plain
    (an_order streams rising (paired streams accepted).once)
    (subst (λ o. IsFoundBy top streams o found) accepted is)
