-- The finding that the streams determine holds of them: it names the place of an item, which has
-- an event, and the construction gives a reason of its own only if the reason holds of the item's
-- move.
use Rattle.std.proofs.Common.{◌≡◌, ℕ, ◌++◌, Bool, true, false, cond, List, [], ◌∷◌, length, reverse}
use Rattle.std.proofs.Common.{get_or, Option, Some, None, IsSome, option_map, refl}
use Rattle.std.proofs.Common.{sym, ◌∙◌, ap, subst, arith}
use Rattle.std.proofs.lemmas.Option.{same_Some, none-some}
use Rattle.st_core.specs.declared.types.Pid.{Pid}
use Rattle.st_core.specs.declared.types.Event.{Event}
use Rattle.st_core.specs.declared.types.Act.{Act}
use Rattle.st_core.specs.Pid.{IsRising}
use Rattle.st_core.specs.Run.{Stream, pids_of, run_from}
use Rattle.st_core.specs.State.{State}
use Rattle.st_core.specs.Step.{Outcome}
use Rattle.st_core.specs.Streams.{IsStreams}
use Rattle.st_core.specs.Verdict as verdicts
use Rattle.st_check.specs.Answers.{verdict_of}
use Rattle.st_pair.specs.declared.answer.PairFault.{PairFault}
use Rattle.st_pair.specs.declared.answer.PairFault.TheVariants as fault
use Rattle.st_pair.specs.Pairing.{refusal, IsPairFault}
use Rattle.st_pair.specs.Places.{event_at}
use Rattle.st_pair.proofs.ForCallers.{paired}
use Rattle.st_order.specs.declared.item.Item.{Item}
use Rattle.st_order.specs.declared.item.Item.TheVariants as item
use Rattle.st_order.specs.Items.{event_of, item_place}
use Rattle.st_order.specs.Order.{order, IsOrder}
use Rattle.st_order.proofs.ForCallers.{an_order}
use Rattle.st_plan.specs.Build.{state_after}
use Rattle.st_plan.specs.Marks.{all_told, Marks}
use Rattle.st_plan.specs.Moves.{Move, move_by, moves}
use Rattle.st_plan.specs.Plain.{out_of_turn}
use Rattle.st_plan.specs.Reasons.{too_wide, uncaused, HoldsOfMoveAt}
use Rattle.st_plan.proofs.ForCallers.{holds_here, reverse_more, moves_by}
use Rattle.st_audit.specs.declared.finding.Reason.{Reason}
use Rattle.st_audit.specs.declared.finding.Reason.TheVariants as reason
use Rattle.st_audit.specs.declared.finding.Finding.{Finding}
use Rattle.st_audit.specs.declared.finding.Finding.TheVariants as finding
use Rattle.st_audit.specs.Construction.{acts_from, attempt, compared_turn, course, end_of}
use Rattle.st_audit.specs.Construction.{first_acts, is_shown, last_place, turn, turn_by, End}
use Rattle.st_audit.specs.Construction.{Judged, Unfounded, Turn, Through, Stopped, Refused, IsAudit}
use Rattle.st_audit.specs.Construction.{IsFoundAt, IsFoundBy}
use Rattle.st_audit.specs.Findings.{IsFinding, IsReason}
use Rattle.st_audit.proofs.Course.{last_at, went_on}
use Rattle.st_audit.proofs.ItemPlaces.{place_there}
use Rattle.st_audit.proofs.ReasonPlaces.{fault_holds}
use Rattle.st_audit.proofs.Track.{none}

-- THE PLACES

-- an event is at this place
abbrev IsThereAt : List Stream → Pid × ℕ → Type 0
IsThereAt streams at = IsSome (event_at streams at.0 at.1)

-- each of these moves has an event at its place
abbrev AreThere : List Stream → List Move → Type 0
AreThere streams [] = Unit {0}
AreThere streams (m ∷ ms) = IsThereAt streams (item_place m.item) × AreThere streams ms

place_of : (streams : List Stream) (x : Item) (e : Event) → event_of streams x ≡ Some e
    → IsThereAt streams (item_place (move_by x e).item)
place_of streams (item.Reported p i) e at = rw at refl
place_of streams (item.Hidden p i) e at = rw at refl

moves_there : (streams : List Stream) (xs : List Item) → AreThere streams (moves streams xs)
moves_there streams [] = tt
moves_there streams (x ∷ xs) =
    let rest = moves_there streams xs in
    elim (event_of streams x) as (λ o. event_of streams x ≡ o
    → AreThere streams (moves_by streams x xs o)) [
      | None ↦ λ at. rest
      | Some e ↦ λ at. (place_of streams x e at, rest)
    ] refl

-- the last item's place has an event
last_there : (streams : List Stream) (xs : List Item) → IsRising (pids_of streams)
    → IsOrder streams xs
    → (at : Pid × ℕ) → last_place xs ≡ Some at → IsThereAt streams at
last_there streams [] rising order at is = absurd (none-some at is)
last_there streams (x ∷ xs) rising order at is =
    let k = length xs in
    let found = last_at None (x ∷ xs) k none refl in
    let same = same_Some (item_place (get_or (x ∷ xs) k none)) at
    (sym (ap (option_map item_place) found) ∙ is) in
    place_there streams (x ∷ xs) k none at rising order (omega arith) (sym same)

-- THE REASONS

-- if a move is refused for a reason, the reason holds of it
abbrev Against : List Move → Move → Turn → Type 0
Against earlier m (Through acts os) = Unit {0}
Against earlier m (Stopped acts) = Unit {0}
Against earlier m (Refused reason.Uncaused) = uncaused earlier m ≡ true
Against earlier m (Refused reason.TooWide) = too_wide earlier m ≡ true
Against earlier m (Refused r) = ⊥

turn_against : (top : ℕ) (s : State) (acts : List Act) (earlier : List Move) (m : Move)
    (o : Option (List Outcome))
    → Against earlier m (turn_by top s acts o)
turn_against top s acts earlier m None = tt
turn_against top s acts earlier m (Some os) = tt

attempt_against : (top : ℕ) (s : State) (earlier : List Move) (m : Move) (one two : Bool)
    (plan : Option (List Act))
    → uncaused earlier m ≡ one → too_wide earlier m ≡ two
    → Against earlier m (attempt top s one two plan)
attempt_against top s earlier m one two None is_one is_two = tt
attempt_against top s earlier m true two (Some acts) is_one is_two = is_one
attempt_against top s earlier m false true (Some acts) is_one is_two = is_two
attempt_against top s earlier m false false (Some acts) is_one is_two =
    turn_against top s acts earlier m (run_from top s acts)

compared_against : (earlier : List Move) (m : Move) (t : Turn) → Against earlier m t
    → Against earlier m (compared_turn m t)
compared_against earlier m (Through acts os) h = elim (is_shown m os) as
    (λ b. Against earlier m (cond b (Through acts os) (Stopped acts))) [ true ↦ tt | false ↦ tt ]
compared_against earlier m (Stopped acts) h = tt
compared_against earlier m (Refused r) h = h

against : (top : ℕ) (streams : List Stream) (marks : Marks) (s : State) (earlier : List Move)
    (m : Move)
    → Against earlier m (turn top streams marks s earlier m)
against top streams marks s earlier m =
    let tried = attempt top s (uncaused earlier m) (too_wide earlier m)
    (acts_from streams marks s m) in
    elim (out_of_turn earlier m) as (λ b.
    Against earlier m (cond b (Stopped []) (compared_turn m tried))) [
      | true ↦ tt
      | false ↦ compared_against earlier m tried
          (attempt_against top s earlier m (uncaused earlier m) (too_wide earlier m)
          (acts_from streams marks s m) refl
          refl)
    ]

-- THE END

-- the reason is one of the auditor's own, and it holds at this place
abbrev HoldsFor : List Stream → Pid × ℕ → Reason → Type 0
HoldsFor streams at reason.Uncaused = HoldsOfMoveAt uncaused streams at.0 at.1
HoldsFor streams at reason.TooWide = HoldsOfMoveAt too_wide streams at.0 at.1
HoldsFor streams at r = ⊥

-- the construction ends at the place of an event, and if it ends for a reason, the reason holds
-- there
abbrev EndsWell : List Stream → End → Type 0
EndsWell streams (Judged acts end) = (at : Pid × ℕ) → end ≡ Some at → IsThereAt streams at
EndsWell streams (Unfounded at r) = IsThereAt streams at × HoldsFor streams at r

module _ (top : ℕ) (streams : List Stream) (xs : List Item) (order : IsOrder streams xs) where
  refused_for : (earlier : List Move) (m : Move) (ms : List Move) (r : Reason)
      → moves streams xs ≡ reverse earlier ++ m ∷ ms → Against earlier m (Refused r)
      → HoldsFor streams (item_place m.item) r
  refused_for earlier m ms reason.Uncaused split h =
      holds_here streams xs order uncaused earlier ms m split h
  refused_for earlier m ms reason.TooWide split h =
      holds_here streams xs order too_wide earlier ms m split h
  refused_for earlier m ms r split h = absurd h

  module _ (end : Option (Pid × ℕ)) (ends : (at : Pid × ℕ) → end ≡ Some at → IsThereAt streams at)
    where
      course_well : (s : State) (earlier : List Move) (acts : List Act) (ms : List Move)
          → moves streams xs ≡ reverse earlier ++ ms → AreThere streams ms
          → EndsWell streams (course top streams end s earlier acts ms)
      course_well s earlier acts [] split there = ends
      course_well s earlier acts (m ∷ ms) split there =
          elim (turn top streams all_told s earlier m) as
          (λ t. Against earlier m t
          → EndsWell streams (went_on top streams end s earlier acts m ms t)) [
            | Through more os ↦ λ h. course_well (state_after s os) (m ∷ earlier) (acts ++ more) ms
                (split ∙ sym (reverse_more m earlier ms)) there.1
            | Stopped more ↦ λ h. λ at is.
                subst (IsThereAt streams) (same_Some (item_place m.item) at is) there.0
            | Refused r ↦ λ h. (there.0, refused_for earlier m ms r split h)
          ] (against top streams all_told s earlier m)

  end_well : IsRising (pids_of streams) → EndsWell streams (end_of top streams xs)
  end_well rising =
      course_well (last_place xs) (last_there streams xs rising order) _ [] (first_acts streams xs)
      (moves streams xs)
      refl (moves_there streams xs)

-- THE FINDING

module _ (top : ℕ) (streams : List Stream) (accepted : refusal streams ≡ None) where
  own_reason : (p : Pid) (i : ℕ) (r : Reason) → HoldsFor streams (p, i) r
      → IsReason top streams p i r
  own_reason p i reason.Uncaused h = (accepted, h)
  own_reason p i reason.TooWide h = (accepted, h)
  own_reason p i r h = absurd h

  found_holds : (end : End) (found : Finding) → EndsWell streams end
      → IsFoundAt top streams end found
      → IsFinding top streams found
  found_holds (Judged acts end) (finding.Fits xs ps) well is =
      subst (λ ys. verdicts.IsVerdict top streams ys (verdicts.Yes ps)) (sym is.0) is.1
  found_holds (Judged acts end) (finding.Unfit p i (reason.NotReplayed xs v)) well is =
      let verdict = subst (λ ys. verdicts.IsVerdict top streams ys (verdict_of v)) (sym is.0)
      is.2 in
      (well (p, i) is.1, (accepted, verdict, is.3))
  found_holds (Unfounded at r) found well is =
      subst (IsFinding top streams) (sym is) (well.0, own_reason at.0 at.1 r well.1)
  found_holds (Judged acts end) found well is = absurd is

pair_fault : (streams : List Stream) (f : PairFault) → refusal streams ≡ Some f
    → IsPairFault streams f
pair_fault streams fault.Memory why = tt
pair_fault streams f why = why

pub findings_hold : (top : ℕ) (streams : List Stream) (found : Finding) → IsStreams streams
    → IsAudit top streams found → IsFinding top streams found
findings_hold top streams found sound is =
    let rising = sound.draft.rising in
    elim (refusal streams) as (λ o. refusal streams ≡ o → IsFoundBy top streams o found
    → IsFinding top streams found) [
      | Some f ↦ λ why is. fault_holds streams rising top f found (pair_fault streams f why) is
      | None ↦ λ accepted is.
          let is_order = an_order streams rising (paired streams accepted).once in
          found_holds top streams accepted (end_of top streams (order streams)) found
          (end_well top streams (order streams) is_order rising) is
    ] refl is
