-- The told events of whole streams are some of all, in turn. So no told stamp of full streams is
-- late: the counts before it among all events are no lower than among the told ones. An untold
-- event, or a process that did nothing, leaves the told events as they are.
use Rattle.std.proofs.Common.{[], ◌≡◌, ℕ, zero, suc, ◌≤◌, ◌&&◌, max, nat_lt, Bool, true, false, not}
use Rattle.std.proofs.Common.{cond, List, ◌∷◌, map, take, Option, Some, None, find, slice_get, refl}
use Rattle.std.proofs.Common.{sym, ◌∙◌, ap, subst, arith, ◌++◌, drop, if◌then◌else◌}
use Rattle.std.proofs.lemmas.Bool.Decides.{nat_tests}
use Rattle.std.proofs.lemmas.Option.{none-some, same_Some}
use Rattle.std.specs.Ordering.{is_lt}
use Rattle.st_core.specs.declared.types.Pid.{Pid}
use Rattle.st_core.specs.declared.types.Event.{Event}
use Rattle.st_core.specs.Laws.{greatest_count, GoesOnFrom}
use Rattle.st_core.specs.Pid.{pid_eq, pid_cmp}
use Rattle.st_core.specs.Run.{Stream, pids_of}
use Rattle.st_core.specs.Streams.{events_of, stream_of}
use Rattle.st_pair.specs.Places.{event_at, is_stamp}
use Rattle.st_pair.proofs.ForCallers.{events_in}
use Rattle.st_plan.specs.Full.{IsFull}
use Rattle.st_plan.specs.Marks.{all_streams, Marked, told_events, told_streams, Whole}
use Rattle.st_plan.proofs.ForCallers.{AreWithin}
use Rattle.lack_laws.specs.Needs.{HoldsOfNone, is_late, marked_of}
use Rattle.lack_laws.specs.Silent.{inserted, silent}
use Rattle.lack_laws.proofs.InsertedEvents.{more}

abbrev pub events : List Marked → List Event
events ms = map (λ m. m.event) ms

-- TOLD EVENTS AMONG ALL

-- event i of the told ones is e, and is at this place among all
pub record IsToldAt (ms : List Marked) (i : ℕ) (e : Event) : Type 0 where
  pub index : ℕ
  pub at : slice_get ms index ≡ Some (record { event = e; told = true })
  pub before : told_events (take index ms) ≡ take i (told_events ms)

told_more : (m : Marked) (ms : List Marked) (i : ℕ) (e : Event) (b : Bool) → m.told ≡ b
    → IsToldAt ms i e → IsToldAt (m ∷ ms) (cond b (suc i) i) e
told_more m ms i e true is at = record {
  index = suc at.index;
  at = at.at;
  before = ap (λ b. cond b (m.event ∷ told_events (take at.index ms))
      (told_events (take at.index ms))) is
      ∙ ap (λ es. m.event ∷ es) at.before
      ∙ ap (λ b. take (suc i) (cond b (m.event ∷ told_events ms) (told_events ms))) (sym is);
}
told_more m ms i e false is at = record {
  index = suc at.index;
  at = at.at;
  before = ap (λ b. cond b (m.event ∷ told_events (take at.index ms))
      (told_events (take at.index ms))) is
      ∙ at.before
      ∙ ap (λ b. take i (cond b (m.event ∷ told_events ms) (told_events ms))) (sym is);
}

pub told_at : (ms : List Marked) (i : ℕ) (e : Event) → slice_get (told_events ms) i ≡ Some e
    → IsToldAt ms i e
told_at [] i e at = absurd (none-some e at)
told_at (m ∷ ms) i e at =
    elim m.told as (λ b. m.told ≡ b → slice_get (cond b (m.event ∷ told_events ms) (told_events ms))
    i ≡ Some e
    → IsToldAt (m ∷ ms) i e) [
      | false ↦ λ is at. told_more m ms i e false is (told_at ms i e at)
      | true ↦ λ is at. elim i as (λ i. slice_get (m.event ∷ told_events ms) i ≡ Some e
          → IsToldAt (m ∷ ms) i e) [
            | zero ↦ λ at.
                let event = same_Some m.event e at in
                record {
                  index = 0;
                  at = λ k. Some (record { event = event k; told = is k });
                  before =
                      refl;
                }
            | suc j ↦ λ at. told_more m ms j e true is (told_at ms j e at)
          ] at
    ] refl at

pub take_events : (ms : List Marked) (k : ℕ) → take k (events ms) ≡ events (take k ms)
take_events ms zero = refl
take_events [] (suc k) = refl
take_events (m ∷ ms) (suc k) = ap (λ es. m.event ∷ es) (take_events ms k)

pub event_of_mark : (ms : List Marked) (k : ℕ) (m : Marked) → slice_get ms k ≡ Some m
    → slice_get (events ms) k ≡ Some m.event
event_of_mark [] k m at = absurd (none-some m at)
event_of_mark (x ∷ ms) zero m at = ap (λ (y : Marked). Some y.event) (same_Some x m at)
event_of_mark (x ∷ ms) (suc k) m at = event_of_mark ms k m at

pub told_below : (ms : List Marked) → greatest_count (told_events ms) ≤ greatest_count (events ms)
told_below [] = omega arith
told_below (m ∷ ms) =
    let rest = told_below ms in
    let all = greatest_count (events ms) in
    elim m.told as (λ b. greatest_count (cond b (m.event ∷ told_events ms) (told_events ms))
    ≤ max m.event.serial.this all) [ true ↦ omega arith | false ↦ omega arith ]

-- each stamp goes on from all events before it
abbrev pub GoOn : List Marked → Type 0
GoOn ms = (k : ℕ) (m : Marked) → slice_get ms k ≡ Some m → is_stamp m.event ≡ true
    → GoesOnFrom (take k (events ms)) m.event

pub never_late : (ms : List Marked) (k : ℕ) (e : Event) → GoOn ms
    → slice_get ms k ≡ Some (record { event = e; told = true })
    → is_late (told_events (take k ms)) e ≡ false
never_late ms k e go_on at =
    let before = told_events (take k ms) in
    elim (is_stamp e) as (λ b. is_stamp e ≡ b
    → (b && not (nat_lt (greatest_count before) e.serial.this)) ≡ false) [
      | false ↦ λ _. refl
      | true ↦ λ stamps.
          let count = (go_on k (record { event = e; told = true }) at stamps).count in
          let least = told_below (take k ms) in
          let all = ap greatest_count (take_events ms k) in
          grind (arith, nat_tests)
    ] refl

-- OF EACH PROCESS

abbrev marked_in : Option Whole → List Marked
marked_in o = elim o [ None ↦ [] | Some w ↦ w.marked ]

-- the streams that g makes of whole ones: `all_streams` if g is `events`, `told_streams` if g is
-- `told_events`
abbrev pub streams_by : (List Marked → List Event) → List Whole → List Stream
streams_by g wholes = map (λ w. record { pid = w.pid; events = g w.marked }) wholes

module _ (g : List Marked → List Event) (none : g [] ≡ []) where
  events_by : (wholes : List Whole) (p : Pid)
      → events_of (streams_by g wholes) p ≡ g (marked_of wholes p)
  events_by [] p = sym none
  events_by (w ∷ wholes) p =
      let x : Stream = record { pid = w.pid; events = g w.marked } in
      elim (pid_eq w.pid p) as (λ b.
      events_in (cond b (Some x) (stream_of (streams_by g wholes) p))
      ≡ g (marked_in (cond b (Some w) (find (λ (y : Whole). pid_eq y.pid p) wholes))))
      [ true ↦ refl | false ↦ events_by wholes p ]

pub events_all : (wholes : List Whole) (p : Pid) → events_of (all_streams wholes) p
    ≡ events (marked_of wholes p)
events_all = events_by events refl

pub events_told : (wholes : List Whole) (p : Pid)
    → events_of (told_streams wholes) p ≡ told_events (marked_of wholes p)
events_told = events_by told_events refl

pub at_mark : (wholes : List Whole) (p : Pid) (k : ℕ) (m : Marked)
    → slice_get (marked_of wholes p) k ≡ Some m → event_at (all_streams wholes) p k ≡ Some m.event
at_mark wholes p k m at = ap (λ es. slice_get es k) (events_all wholes p)
    ∙ event_of_mark (marked_of wholes p) k m at

pub within_told : (top : ℕ) (wholes : List Whole) → IsFull top (all_streams wholes)
    → AreWithin top (told_streams wholes)
within_told top wholes full p i e at =
    let place = told_at (marked_of wholes p) i e (ap (λ es. slice_get es i)
    (sym (events_told wholes p)) ∙ at) in
    full.within p place.index e (at_mark wholes p place.index (record { event = e; told = true })
    place.at)

module _ (top : ℕ) (wholes : List Whole) (full : IsFull top (all_streams wholes)) where
  pub go_on : (p : Pid) → GoOn (marked_of wholes p)
  go_on p k m at stamps =
      subst (λ es. GoesOnFrom (take k es) m.event) (events_all wholes p)
      (full.goes_on p k m.event (at_mark wholes p k m at) stamps)

  pub told_there : (p : Pid) (i : ℕ) (e : Event) → event_at (told_streams wholes) p i ≡ Some e
      → slice_get (told_events (marked_of wholes p)) i ≡ Some e
  told_there p i e at = ap (λ es. slice_get es i) (sym (events_told wholes p)) ∙ at

  pub none_late : HoldsOfNone is_late (told_streams wholes)
  none_late p i e at =
      let place = told_at (marked_of wholes p) i e (told_there p i e at) in
      ap (λ es. is_late (take i es) e) (events_told wholes p)
      ∙ ap (λ es. is_late es e) (sym place.before)
      ∙ never_late (marked_of wholes p) place.index e (go_on p) place.at

-- ONE MORE EVENT

-- the whole stream with an untold event put before event i of p
abbrev pub put : Pid → ℕ → Event → Whole → Whole
put p i e w =
    if pid_eq w.pid p then record w {
      marked = take i w.marked ++ record { event = e; told = false } ∷ drop i w.marked;
    } else w

abbrev untold : Event → Marked
untold e = record { event = e; told = false }

abbrev with_at : ℕ → Marked → List Marked → List Marked
with_at i m ms = take i ms ++ m ∷ drop i ms

inserted_told : (i : ℕ) (e : Event) (ms : List Marked)
    → told_events (with_at i (untold e) ms) ≡ told_events ms
inserted_told zero e ms = refl
inserted_told (suc i) e [] = refl
inserted_told (suc i) e (m ∷ ms) =
    ap (λ es. cond m.told (m.event ∷ es) es) (inserted_told i e ms)

inserted_all : (i : ℕ) (e : Event) (ms : List Marked)
    → events (with_at i (untold e) ms) ≡ take i (events ms) ++ e ∷ drop i (events ms)
inserted_all zero e ms = refl
inserted_all (suc i) e [] = refl
inserted_all (suc i) e (m ∷ ms) = ap (λ es. m.event ∷ es) (inserted_all i e ms)

module _ (p : Pid) (i : ℕ) (e : Event) where
  pub put_told : (ws : List Whole) → told_streams (map (put p i e) ws) ≡ told_streams ws
  put_told [] = refl
  put_told (w ∷ ws) =
      ap (λ x. x ∷ told_streams (map (put p i e) ws))
      (elim (pid_eq w.pid p) as (λ b. (let u : Whole =
      cond b (record { pid = w.pid; marked = with_at i (untold e) w.marked }) w in
      let x : Stream = record { pid = u.pid; events = told_events u.marked } in x)
      ≡ (let x : Stream = record { pid = w.pid; events = told_events w.marked } in x)) [
        | true ↦ ap (λ es. let x : Stream = record { pid = w.pid; events = es } in x)
            (inserted_told i e w.marked)
        | false ↦ refl
      ])
      ∙ ap (λ xs. let x : Stream = record { pid = w.pid; events = told_events w.marked } in x ∷ xs)
      (put_told ws)

  -- all events of whole streams with the event put in are their streams with the event
  pub put_more : (ws : List Whole) → all_streams (map (put p i e) ws) ≡ more p i e (all_streams ws)
  put_more [] = refl
  put_more (w ∷ ws) =
      let es = events w.marked in
      ap (λ x. x ∷ all_streams (map (put p i e) ws))
      (elim (pid_eq w.pid p) as (λ b. (let u : Whole =
      cond b (record { pid = w.pid; marked = with_at i (untold e) w.marked }) w in
      let x : Stream = record { pid = u.pid; events = events u.marked } in x)
      ≡ (let x : Stream = record { pid = w.pid; events = cond b (take i es ++ e ∷ drop i es) es } in
      x)) [
        | true ↦ ap (λ xs. let x : Stream = record { pid = w.pid; events = xs } in x)
            (inserted_all i e w.marked)
        | false ↦ refl
      ])
      ∙ ap (λ xs. let x : Stream =
      record { pid = w.pid; events = cond (pid_eq w.pid p) (take i es ++ e ∷ drop i es) es } in
      x ∷ xs) (put_more ws)

-- ONE MORE PROCESS

abbrev pub silent_whole : Pid → Whole
silent_whole q = record { pid = q; marked = [] }

-- the whole streams with q put in by its pid, without events
abbrev pub whole_inserted : Pid → List Whole → List Whole
whole_inserted q [] = silent_whole q ∷ []
whole_inserted q (w ∷ rest) =
    if is_lt (pid_cmp q w.pid) then silent_whole q ∷ w ∷ rest else w ∷ whole_inserted q rest

pub by_inserted : (g : List Marked → List Event) → g [] ≡ [] → (q : Pid) (wholes : List Whole)
    → streams_by g (whole_inserted q wholes) ≡ inserted q (streams_by g wholes)
by_inserted g none q wholes = along wholes
  where
    first : (ws : List Whole) → streams_by g (silent_whole q ∷ ws) ≡ silent q ∷ streams_by g ws
    first ws =
        ap (λ es. let x : Stream = record { pid = q; events = es } in x ∷ streams_by g ws) none

    along : (ws : List Whole) → streams_by g (whole_inserted q ws) ≡ inserted q (streams_by g ws)
    along [] = first []
    along (w ∷ rest) = elim (is_lt (pid_cmp q w.pid)) as (λ b.
        streams_by g (cond b (silent_whole q ∷ w ∷ rest) (w ∷ whole_inserted q rest))
        ≡ cond b (silent q ∷ streams_by g (w ∷ rest))
        (streams_by g (w ∷ []) ++ inserted q (streams_by g rest))) [
          | true ↦ first (w ∷ rest)
          | false ↦ ap (λ xs. streams_by g (w ∷ []) ++ xs) (along rest)
        ]

pub told_pids : (wholes : List Whole) → pids_of (told_streams wholes) ≡ pids_of (all_streams wholes)
told_pids [] = refl
told_pids (w ∷ wholes) = ap (λ ps. w.pid ∷ ps) (told_pids wholes)
