-- In a full completion each stamp goes on from all events before it, so once these leave another
-- prev than 0, each later stamp has another one. So in a run without a reset no stamp with prev 0
-- comes after a receive, or after a stamp with another prev.
use Rattle.std.proofs.Common.{[], ◌≡◌, inl, inr, ℕ, zero, suc, ◌<◌, true, false, not, cond, List}
use Rattle.std.proofs.Common.{◌∷◌, ◌++◌, take, Some, slice_get, append-nil, append_assoc, refl, sym}
use Rattle.std.proofs.Common.{◌∙◌, ap, subst, arith}
use Rattle.std.proofs.lemmas.Bool.{cases_order, false≢true}
use Rattle.std.proofs.lemmas.Option.{none-some, same_Some}
use Rattle.st_core.specs.declared.types.Pid.{Pid}
use Rattle.st_core.specs.declared.types.Event.{Event}
use Rattle.st_core.specs.Laws.{GoesOnFrom, greatest_count, prev_after}
use Rattle.st_core.specs.Pid.{IsRising}
use Rattle.st_core.specs.Run.{Stream, pids_of}
use Rattle.st_core.specs.Streams.{events_of, IsStreams}
use Rattle.st_core.proofs.ForCallers.{greatest_push, prev_push}
use Rattle.st_pair.specs.Places.{event_at, is_stamp}
use Rattle.st_pair.proofs.ForCallers.{agreed, paired}
use Rattle.st_plan.specs.Full.{IsFull}
use Rattle.st_plan.specs.Marks.{all_streams, told_events, told_streams, Whole}
use Rattle.st_plan.proofs.ForCallers.{leaves}
use Rattle.lack_laws.specs.Completed.{IsShownInOneTrace}
use Rattle.lack_laws.specs.Needs.{marked_of}
use Rattle.lack_laws.specs.OpenReasons.{IsBehindReceive, IsUnfounded, IsZeroBehind}
use Rattle.lack_laws.proofs.AcceptedStreams.{FitTogether, fit_together, sent_if, HasStamp, own_at}
use Rattle.lack_laws.proofs.AcceptedStreams.{stamper}
use Rattle.lack_laws.proofs.RunCompletions.{shown_full}
use Rattle.lack_laws.proofs.ToldEvents.{at_mark, told_at, told_there}

-- ALONG A PROCESS

-- each event has a count above 0, and each stamp goes on from all events before it
abbrev GoAlong : List Event → List Event → Type 0
GoAlong before [] = Unit {0}
GoAlong before (e ∷ es) = (0 < e.serial.this) × (is_stamp e ≡ true → GoesOnFrom before e)
    × GoAlong (before ++ e ∷ []) es

along_from : (before es : List Event) → ((k : ℕ) (e : Event) → slice_get es k ≡ Some e
    → (0 < e.serial.this) × (is_stamp e ≡ true → GoesOnFrom (before ++ take k es) e))
    → GoAlong before es
along_from before [] each = tt
along_from before (d ∷ es) each =
    let here = each 0 d refl in (
      here.0,
      λ stamps. subst (λ xs. GoesOnFrom xs d) (append-nil before) (here.1 stamps),
      along_from (before ++ d ∷ []) es (λ k e at.
          let later = each (suc k) e at in (
            later.0,
            λ stamps. subst (λ xs. GoesOnFrom xs e) (sym (append_assoc before (d ∷ []) (take k es)))
                (later.1 stamps),
          )),
    )

-- the events leave a prev above 0, and their greatest count is above 0
record LeavesSome (es : List Event) : Type 0 where
  left : 0 < prev_after es
  high : 0 < greatest_count es

left_by : (before : List Event) (d : Event) → 0 < d.serial.this
    → (is_stamp d ≡ true → 0 < d.serial.prev) → LeavesSome (before ++ d ∷ [])
left_by before d above some =
    let push = prev_push before d in
    let high = greatest_push before d in
    let left = leaves d in
    let one : 0 < cond (not (is_stamp d)) d.serial.this d.serial.prev = elim (is_stamp d)
    as (λ b. is_stamp d ≡ b → 0 < cond (not b) d.serial.this d.serial.prev) [
      | true ↦ λ stamps. some stamps
      | false ↦ λ _. above
    ] refl in
    record { left = omega arith; high = omega arith }

prev_some : (before : List Event) (e : Event) → LeavesSome before → GoesOnFrom before e
    → 0 < e.serial.prev
prev_some before e some goes =
    let left = some.left in
    let high = some.high in
    elim goes.prev [ inl on ↦ omega arith | inr new ↦ omega arith ]

never_zero : (before es : List Event) → GoAlong before es → LeavesSome before → (i : ℕ) (e : Event)
    → slice_get es i ≡ Some e → is_stamp e ≡ true → 0 < e.serial.prev
never_zero before [] along some i e at stamps = absurd (none-some e at)
never_zero before (d ∷ es) along some zero e at stamps =
    let same = same_Some d e at in
    subst (λ (x : Event). 0 < x.serial.prev) same
    (prev_some before d some (along.1 (ap is_stamp same ∙ stamps)))
never_zero before (d ∷ es) along some (suc i) e at stamps =
    never_zero (before ++ d ∷ []) es along.2
    (left_by before d along.0 (λ stamp. prev_some before d some (along.1 stamp))) i e at stamps

zero_never : (before es : List Event) → GoAlong before es → (j i : ℕ) (f e : Event) → j < i
    → slice_get es j ≡ Some f → (is_stamp f ≡ true → 0 < f.serial.prev)
    → slice_get es i ≡ Some e → is_stamp e ≡ true → 0 < e.serial.prev
zero_never before [] along j i f e less at_f some at stamps = absurd (none-some e at)
zero_never before (d ∷ es) along j zero f e less at_f some at stamps = absurd (omega arith)
zero_never before (d ∷ es) along zero (suc i) f e less at_f some at stamps =
    let same = same_Some d f at_f in
    let first : is_stamp d ≡ true → 0 < d.serial.prev =
    subst (λ (x : Event). is_stamp x ≡ true → 0 < x.serial.prev) (sym same) some in
    never_zero (before ++ d ∷ []) es along.2 (left_by before d along.0 first) i e at stamps
zero_never before (d ∷ es) along (suc j) (suc i) f e less at_f some at stamps =
    zero_never (before ++ d ∷ []) es along.2 j i f e (omega arith) at_f some at stamps

-- PARTS OF LISTS

pub taken_at : {A : Type 0} (xs : List A) (i j : ℕ) (x : A) → slice_get (take i xs) j ≡ Some x
    → (slice_get xs j ≡ Some x) × (j < i)
taken_at xs zero j x at = absurd (none-some x at)
taken_at [] (suc i) j x at = absurd (none-some x at)
taken_at (y ∷ xs) (suc i) zero x at = (at, omega arith)
taken_at (y ∷ xs) (suc i) (suc j) x at = let rest = taken_at xs i j x at in (rest.0, omega arith)

at_taken : {A : Type 0} (xs : List A) (i j : ℕ) (x : A) → slice_get xs j ≡ Some x → j < i
    → slice_get (take i xs) j ≡ Some x
at_taken xs zero j x at less = absurd (omega arith)
at_taken [] (suc i) j x at less = at
at_taken (y ∷ xs) (suc i) zero x at less = at
at_taken (y ∷ xs) (suc i) (suc j) x at less = at_taken xs i j x at (omega arith)

-- IN A FULL COMPLETION

module _ (top : ℕ) (wholes : List Whole) (sound : IsStreams (all_streams wholes))
    (full : IsFull top (all_streams wholes)) where
  abbrev all : List Stream
  all = all_streams wholes

  abbrev told : List Stream
  told = told_streams wholes

  fit : FitTogether all
  fit = fit_together all (paired all full.accepted)

  in_turn : (p : Pid) (j i : ℕ) (f e : Event) → j < i → event_at all p j ≡ Some f
      → (is_stamp f ≡ true → 0 < f.serial.prev) → event_at all p i ≡ Some e → is_stamp e ≡ true
      → 0 < e.serial.prev
  in_turn p = zero_never [] (events_of all p) (along_from [] (events_of all p) (λ k e at.
      (omega (arith, fit.rises p k e at), full.goes_on p k e at)))

  pub in_all : (p : Pid) (i : ℕ) (e : Event) → event_at told p i ≡ Some e
      → (k : ℕ) × (event_at all p k ≡ Some e)
  in_all p i e at =
      let place = told_at (marked_of wholes p) i e (told_there top wholes full p i e at) in
      (place.index, at_mark wholes p place.index (record { event = e; told = true }) place.at)

  -- no stamp with prev 0 comes after a receive
  no_receive : (p : Pid) (i : ℕ) → ¬ IsBehindReceive told p i
  no_receive p i z =
      let ms = marked_of wholes p in
      let place = told_at ms i z.event (told_there top wholes full p i z.event z.at) in
      let front = take place.index ms in
      let there : slice_get (told_events front) z.index ≡ Some z.received =
      ap (λ es. slice_get es z.index) place.before
      ∙ at_taken (told_events ms) i z.index z.received
      (told_there top wholes full p z.index z.received z.received_at) z.behind in
      let first = told_at front z.index z.received there in
      let was = taken_at ms place.index first.index
      (record { event = z.received; told = true }) first.at in
      let above = in_turn p first.index place.index z.received z.event was.1
      (at_mark wholes p first.index (record { event = z.received; told = true }) was.0)
      (λ stamps. absurd (false≢true (sym z.receives ∙ stamps)))
      (at_mark wholes p place.index (record { event = z.event; told = true }) place.at) z.stamps in
      absurd (omega (arith, z.is_zero))

  -- an event tells of a stamp of the process that it is from
  pub record Tells (e : Event) : Type 0 where
    pub stamp : HasStamp all e.from e.serial.this
    pub prev : stamp.event.serial.prev ≡ e.serial.prev

  pub tells : (p : Pid) (i : ℕ) (e : Event) → event_at all p i ≡ Some e → Tells e
  tells p i e at = elim (is_stamp e) as (λ b. is_stamp e ≡ b → Tells e) [
    | true ↦ λ stamps.
        let from = stamper e.kind e.from e.to p stamps (own_at all p i e sound.draft.own at) in
        record {
          stamp = record {
            index = i;
            event = e;
            at = ap (λ q. event_at all q i) from ∙ at;
            stamps = stamps;
            count = refl;
          };
          prev = refl;
        }
    | false ↦ λ receives.
        let s = sent_if all e (full.reported p i e at) receives in
        record {
          stamp = s;
          prev = (agreed s.event e (fit.agree p i s.index e s.event at receives s.at s.stamps
              s.count)).prev;
        }
  ] refl

  -- no stamp with prev 0 comes after a stamp with another prev
  no_stamp : (p : Pid) (i : ℕ) → ¬ IsZeroBehind told p i
  no_stamp p i z =
      let later_at = in_all p i z.event z.at in
      let first_at = in_all z.pid z.index z.first z.first_at in
      let later = tells p later_at.0 z.event later_at.1 in
      let first = tells z.pid first_at.0 z.first first_at.1 in
      let q = z.event.from in
      let s = first.stamp in
      let t = later.stamp in
      let s_at : event_at all q s.index ≡ Some s.event =
      ap (λ x. event_at all x s.index) (sym z.same) ∙ s.at in
      let lower = z.lower in
      let s_count = s.count in
      let t_count = t.count in
      let turn : s.index < t.index = elim (cases_order s.index t.index) [
        | inl here ↦
            let one = ap (λ (x : Event). x.serial.this) (same_Some s.event t.event
            (sym s_at ∙ ap (event_at all q) here ∙ t.at)) in
            absurd (omega arith)
        | inr (inl less) ↦ less
        | inr (inr less) ↦
            let rise = fit.grows q t.index s.index t.event s.event less t.at s_at t.stamps
            s.stamps in
            absurd (omega arith)
      ] in
      let first_prev = first.prev in
      let later_prev = later.prev in
      let some = z.above in
      let above = in_turn q s.index t.index s.event t.event turn s_at (λ _. omega arith) t.at
      t.stamps in
      absurd (omega (arith, z.is_zero))

  no_unfounded : (p : Pid) (i : ℕ) → ¬ IsUnfounded told p i
  no_unfounded p i (inl z) = no_receive p i z
  no_unfounded p i (inr t) = no_stamp p i t.zero

pub shown_founded : (top : ℕ) (streams : List Stream) → IsRising (pids_of streams)
    → IsShownInOneTrace top streams → (p : Pid) (i : ℕ) → ¬ IsUnfounded streams p i
shown_founded top streams rising shown =
    let done = shown_full top streams rising shown in
    subst (λ ss. (p : Pid) (i : ℕ) → ¬ IsUnfounded ss p i) done.told
    (no_unfounded top done.wholes done.sound done.is)
