-- Two lists of one length, the pids and the events of each, say the same as one list of streams: a
-- place in the lists is a place among the streams, so what is found, added or missing among the
-- pids is so among the streams.
use Rattle.std.proofs.Common.{◌≡◌, ℕ, ◌+◌, ◌<◌, zero, suc, Bool, true, false, not, ◌&&◌, ◌||◌}
use Rattle.std.proofs.Common.{position, cond, if◌then◌else◌, List, [], ◌∷◌, ◌++◌, length, get_or}
use Rattle.std.proofs.Common.{set, drop, Option, Some, None, is_some, slice_get, refl, sym, ◌∙◌, ap}
use Rattle.std.proofs.Common.{subst, arith, length-append}
use Rattle.std.proofs.Math.ListN.{length-set}
use Rattle.std.proofs.lemmas.List.Sums.{sum_by-cons, sum_by-append}
use Rattle.std.specs.List.{AllByRecursion, position_or_len}
use Rattle.std.specs.Option.{option_map_or}
use Rattle.std.proofs.lemmas.Option.{same_Some}
use Rattle.std.proofs.lemmas.List.{get_or_default}
use Rattle.std.proofs.lemmas.Bool.{le-ltb}
use Rattle.st_core.specs.declared.types.Pid.{Pid}
use Rattle.st_core.specs.declared.types.Event.{Event}
use Rattle.st_core.specs.Pid.{pid_eq, IsBelow, IsRising}
use Rattle.st_core.specs.Run.{Stream, pids_of}
use Rattle.st_core.specs.Streams.{stream_of, lists, events_of, total_of, is_own, AreOwn, IsDraft}
use Rattle.st_core.specs.Streams.{ComesLast, with_event, is_among, names_among, added, names_listed}
use Rattle.st_core.specs.Streams.{unlisted_among, unlisted}
use Rattle.st_core.specs.Collected.{collected, IsCollected, first_failing}
use Rattle.st_core.proofs.Pids.{pid_eq-true, pid_eq-same, pid_eq-swap, IsBelow-apart, all_at}
use Rattle.st_core.proofs.Pids.{all_push, IsRising-push}
use Rattle.st_core.proofs.Bools.{or_true}

pub pids_of-collected : (ps : List Pid) (es : List (List Event)) → length es ≡ length ps
    → pids_of (collected ps es) ≡ ps
pids_of-collected [] es even = refl
pids_of-collected (p ∷ ps) [] even = absurd (omega arith)
pids_of-collected (p ∷ ps) (e ∷ es) even = ap (λ qs. p ∷ qs) (pids_of-collected ps es (omega arith))

pub ComesLast-collected : (ps : List Pid) (es : List (List Event)) (p : Pid)
    → AllByRecursion (λ q. IsBelow q p) ps
    → ComesLast (collected ps es) p
ComesLast-collected (q ∷ ps) (e ∷ es) p all = (all.0, ComesLast-collected ps es p all.1)
ComesLast-collected ps es p all = tt

pub ComesLast-pids : (ps : List Pid) (es : List (List Event)) (p : Pid) → length es ≡ length ps
    → ComesLast (collected ps es) p → AllByRecursion (λ q. IsBelow q p) ps
ComesLast-pids [] es p even all = tt
ComesLast-pids (q ∷ ps) [] p even all = absurd (omega arith)
ComesLast-pids (q ∷ ps) (e ∷ es) p even all = (all.0, ComesLast-pids ps es p (omega arith) all.1)

-- A PROCESS THAT IS OPENED

pub collected-push : (ps : List Pid) (es : List (List Event)) (p : Pid) (e : List Event)
    → length es ≡ length ps
    → collected (ps ++ p ∷ []) (es ++ e ∷ []) ≡ collected ps es ++ record { pid = p; events = e }
    ∷ []
collected-push [] [] p e even = refl
collected-push (q ∷ ps) (f ∷ es) p e even =
    ap (λ (xs : List Stream). record { pid = q; events = f } ∷ xs)
    (collected-push ps es p e (omega arith))
collected-push ps es p e even = absurd (omega arith)

pub own_push : (xs : List Stream) (p : Pid) → AreOwn xs
    → AreOwn (xs ++ record { pid = p; events = [] } ∷ [])
own_push xs p own =
    all_push (λ x. AllByRecursion (λ e. is_own x.pid e ≡ true) x.events) xs
    (record { pid = p; events = [] }) own tt

total_push : (xs : List Stream) (p : Pid) → total_of (xs ++ record { pid = p; events = [] } ∷ [])
    ≡ total_of xs
total_push xs p =
    omega (
      arith,
      sum_by-append (λ (x : Stream). length x.events) xs
          (record { pid = p; events = [] } ∷ []),
    )

pub IsCollected-push : (ps : List Pid) (es : List (List Event)) (n : ℕ) (p : Pid)
    → IsCollected ps es n
    → AllByRecursion (λ q. IsBelow q p) ps → IsCollected (ps ++ p ∷ []) (es ++ [] ∷ []) n
IsCollected-push ps es n p c all = record {
  even = let even = c.even in simp length-append (omega arith);
  rising = IsRising-push ps p c.rising all;
  own = rw (collected-push ps es p [] c.even) (own_push (collected ps es) p c.own);
  counted = rw (collected-push ps es p [] c.even)
      (c.counted ∙ sym (total_push (collected ps es) p));
}

-- A PROCESS THAT IS SOUGHT

pub stream_of-missing : (ps : List Pid) (es : List (List Event)) (p : Pid)
    → AllByRecursion (λ q. pid_eq q p ≡ false) ps
    → stream_of (collected ps es) p ≡ None
stream_of-missing (q ∷ ps) (e ∷ es) p all = rw all.0 (stream_of-missing ps es p all.1)
stream_of-missing ps es p all = refl

pub above_apart : (ps : List Pid) (q p : Pid) (i : ℕ) → AllByRecursion (IsBelow q) ps
    → slice_get ps i ≡ Some p
    → pid_eq q p ≡ false
above_apart ps q p i all at = IsBelow-apart q p (all_at (IsBelow q) ps i p all at)

pub stream_of-found : (ps : List Pid) (es : List (List Event)) (p : Pid) (i : ℕ)
    → length es ≡ length ps → IsRising ps
    → slice_get ps i ≡ Some p
    → stream_of (collected ps es) p ≡ Some (record { pid = p; events = get_or es i [] })
stream_of-found [] es p i even rising at = absurd (cc)
stream_of-found (q ∷ ps) [] p i even rising at = absurd (omega arith)
stream_of-found (q ∷ ps) (e ∷ es) p zero even rising at = let same = same_Some q p at in
    rw (same, pid_eq-same p) refl
stream_of-found (q ∷ ps) (e ∷ es) p (suc i) even rising at =
    rw (above_apart ps q p i rising.0 at) (stream_of-found ps es p i (omega arith) rising.1 at)

pub place_within : {A : Type 0} (xs : List A) (i : ℕ) (x : A) → slice_get xs i ≡ Some x
    → i < length xs
place_within [] i x at = absurd (cc)
place_within (y ∷ xs) zero x at = omega arith
place_within (y ∷ xs) (suc i) x at = let rest = place_within xs i x at in omega arith

-- AN EVENT THAT IS ADDED

-- an event of a process below all pids isn't added
added_missing : (ps : List Pid) (es : List (List Event)) (p : Pid) (e : Event)
    → AllByRecursion (λ q. IsBelow p q) ps
    → added (collected ps es) p e ≡ collected ps es
added_missing (q ∷ ps) (f ∷ es) p e all =
    let apart : pid_eq q p ≡ false = pid_eq-swap q p ∙ IsBelow-apart p q all.0 in
    rw (apart, added_missing ps es p e all.1) refl
added_missing ps es p e all = refl

pub added_at : (ps : List Pid) (es : List (List Event)) (p : Pid) (e : Event) (i : ℕ)
    → length es ≡ length ps
    → IsRising ps → slice_get ps i ≡ Some p
    → added (collected ps es) p e ≡ collected ps (set es i (get_or es i [] ++ e ∷ []))
added_at [] es p e i even rising at = absurd (cc)
added_at (q ∷ ps) [] p e i even rising at = absurd (omega arith)
added_at (q ∷ ps) (f ∷ es) p e zero even rising at =
    let same = same_Some q p at in
    let all : AllByRecursion (IsBelow p) ps =
    subst (λ r. AllByRecursion (IsBelow r) ps) same rising.0 in
    rw (same, pid_eq-same p, added_missing ps es p e all) refl
added_at (q ∷ ps) (f ∷ es) p e (suc i) even rising at =
    rw (above_apart ps q p i rising.0 at, added_at ps es p e i (omega arith) rising.1 at) refl

own_event : (x : Stream) (p : Pid) (e : Event) → is_own p e ≡ true
    → AllByRecursion (λ d. is_own x.pid d ≡ true) x.events
    → (let y = with_event p e x in AllByRecursion (λ d. is_own y.pid d ≡ true) y.events)
own_event x p e own all =
    elim (pid_eq x.pid p) as (λ b.
    pid_eq x.pid p ≡ b
    → let y = (if b then record x { events = x.events ++ e ∷ [] } else x) in
    AllByRecursion (λ d. is_own y.pid d ≡ true) y.events) [
      | true ↦ λ same. all_push (λ d. is_own x.pid d ≡ true) x.events e all
          (rw (pid_eq-true x.pid p same) own)
      | false ↦ λ other. all
    ] refl

pub AreOwn-added : (xs : List Stream) (p : Pid) (e : Event) → is_own p e ≡ true → AreOwn xs
    → AreOwn (added xs p e)
AreOwn-added [] p e own all = tt
AreOwn-added (x ∷ xs) p e own all = (own_event x p e own all.0, AreOwn-added xs p e own all.1)

total_cons : (q : Pid) (f : List Event) (xs : List Stream)
    → total_of (record { pid = q; events = f } ∷ xs) ≡ length f + total_of xs
total_cons q f xs = sum_by-cons (λ (x : Stream). length x.events) (record { pid = q; events = f })
    xs

length_set : {A : Type 0} (xs : List A) (i : ℕ) (x : A) → length (set xs i x) ≡ length xs
length_set xs i x = length-set xs i x

total_at : (ps : List Pid) (es : List (List Event)) (e : Event) (i : ℕ) → length es ≡ length ps
    → i < length ps
    → total_of (collected ps (set es i (get_or es i [] ++ e ∷ []))) ≡ total_of (collected ps es) + 1
total_at (q ∷ ps) (f ∷ es) e zero even within =
    rw (
      total_cons q (f ++ e ∷ []) (collected ps es),
      total_cons q f (collected ps es),
      length-append f (e ∷ []),
    )
    (omega arith)
total_at (q ∷ ps) (f ∷ es) e (suc i) even within =
    let rest = total_at ps es e i (omega arith) (omega arith) in
    rw (
      total_cons q f (collected ps (set es i (get_or es i [] ++ e ∷ []))),
      total_cons q f (collected ps es),
    )
    (omega arith)
total_at ps es e i even within = absurd (omega arith)

pub IsCollected-added : (ps : List Pid) (es : List (List Event)) (n : ℕ) (p : Pid) (e : Event)
    (i : ℕ)
    → IsCollected ps es n → slice_get ps i ≡ Some p → is_own p e ≡ true
    → IsCollected ps (set es i (get_or es i [] ++ e ∷ [])) (n + 1)
IsCollected-added ps es n p e i c at own =
    let even = c.even in
    let same = added_at ps es p e i c.even c.rising at in
    record {
      even = length_set es i (get_or es i [] ++ e ∷ []) ∙ even;
      rising = c.rising;
      own = subst AreOwn same (AreOwn-added (collected ps es) p e own c.own);
      counted = ap (λ k. k + 1) c.counted ∙ sym (total_at ps es e i even (place_within ps i p at));
    }

-- NAMES THAT AREN'T LISTED

pub is_among-found : (ps : List Pid) (p : Pid) (i : ℕ) → slice_get ps i ≡ Some p
    → is_among ps p ≡ true
is_among-found [] p i at = absurd (cc)
is_among-found (q ∷ ps) p zero at = rw (same_Some q p at, pid_eq-same p) refl
is_among-found (q ∷ ps) p (suc i) at = rw (is_among-found ps p i at) (or_true (pid_eq q p))

pub is_among-missing : (ps : List Pid) (p : Pid) → AllByRecursion (λ q. pid_eq q p ≡ false) ps
    → is_among ps p ≡ false
is_among-missing [] p all = refl
is_among-missing (q ∷ ps) p all = rw all.0 (is_among-missing ps p all.1)

or_else : (b : Bool) (x : Stream) (o : Option Stream)
    → is_some (cond b (Some x) o) ≡ (b || is_some o)
or_else true x o = refl
or_else false x o = refl

lists-collected : (ps : List Pid) (es : List (List Event)) (p : Pid) → length es ≡ length ps
    → lists (collected ps es) p ≡ is_among ps p
lists-collected [] es p even = refl
lists-collected (q ∷ ps) [] p even = absurd (omega arith)
lists-collected (q ∷ ps) (e ∷ es) p even =
    or_else (pid_eq q p) (record { pid = q; events = e }) (stream_of (collected ps es) p)
    ∙ ap (λ b. pid_eq q p || b) (lists-collected ps es p (omega arith))

names-collected : (ps : List Pid) (es : List (List Event)) → length es ≡ length ps → (e : Event)
    → names_listed (collected ps es) e ≡ names_among ps e
names-collected ps es even e =
    let same : lists (collected ps es) ≡ is_among ps = λ i p. lists-collected ps es p even i in
    ap (λ (test : Pid → Bool). test e.from && option_map_or test e.to true) same

failing-collected : (all : List Stream) (ps : List Pid) (es : List (List Event))
    → unlisted_among all (collected ps es) ≡ first_failing (names_listed all) ps es
failing-collected all (p ∷ ps) (e ∷ es) =
    ap (λ (o : Option (Pid × ℕ)).
    elim (position (λ d. not (names_listed all d)) e) [ None ↦ o | Some i ↦ Some (p, i) ])
    (failing-collected all ps es)
failing-collected all ps es = refl

pub unlisted-collected : (ps : List Pid) (es : List (List Event)) → length es ≡ length ps
    → unlisted (collected ps es) ≡ first_failing (names_among ps) ps es
unlisted-collected ps es even =
    let same : names_listed (collected ps es) ≡ names_among ps =
    λ i e. names-collected ps es even e i in
    failing-collected (collected ps es) ps es
    ∙ ap (λ (test : Event → Bool). first_failing test ps es) same

-- WHAT THE READERS SHOW

abbrev events_in : Option Stream → List Event
events_in None = []
events_in (Some x) = x.events

pub draft_from_collected : (ps : List Pid) (es : List (List Event)) (n : ℕ) → IsCollected ps es n
    → IsDraft (collected ps es)
draft_from_collected ps es n c =
    record { rising = rw (pids_of-collected ps es c.even) c.rising; own = c.own }

pub events_of-missing : (ps : List Pid) (es : List (List Event)) (p : Pid)
    → AllByRecursion (λ q. pid_eq q p ≡ false) ps
    → events_of (collected ps es) p ≡ []
events_of-missing ps es p all = ap events_in (stream_of-missing ps es p all)

pub events_of-found : (ps : List Pid) (es : List (List Event)) (p : Pid) (i : ℕ)
    → length es ≡ length ps → IsRising ps
    → slice_get ps i ≡ Some p → events_of (collected ps es) p ≡ get_or es i []
events_of-found ps es p i even rising at = ap events_in (stream_of-found ps es p i even rising at)

pub events_of-read : (ps : List Pid) (es : List (List Event)) (p : Pid) (i : ℕ) (read : List Event)
    → length es ≡ length ps → IsRising ps → slice_get ps i ≡ Some p → read ≡ get_or es i read
    → read ≡ events_of (collected ps es) p
events_of-read ps es p i read even rising at is =
    let below = place_within ps i p at in
    let within : i < length es = omega arith in
    is ∙ get_or_default es i read [] within ∙ sym (events_of-found ps es p i even rising at)

-- the first failing event is in the rest of the lists, if the process at the front has none
pub first_failing-drop : (test : Event → Bool) (ps : List Pid) (es : List (List Event)) (k : ℕ)
    (read : List Event)
    → length es ≡ length ps → k < length es → read ≡ get_or es k read
    → position (λ e. not (test e)) read ≡ None
    → first_failing test (drop k ps) (drop k es)
    ≡ first_failing test (drop (suc k) ps) (drop (suc k) es)
first_failing-drop test (p ∷ ps) (e ∷ es) zero read even within is none =
    let here : position (λ d. not (test d)) e ≡ None =
    subst (λ xs. position (λ d. not (test d)) xs ≡ None) is none in
    ap (λ (o : Option ℕ). elim o [ None ↦ first_failing test ps es | Some i ↦ Some (p, i) ]) here
first_failing-drop test (p ∷ ps) (e ∷ es) (suc k) read even within is none =
    first_failing-drop test ps es k read (omega arith) (omega arith) is none
first_failing-drop test ps es k read even within is none = absurd (omega arith)

pub with_event_pid : (p : Pid) (e : Event) (x : Stream) → (with_event p e x).pid ≡ x.pid
with_event_pid p e x =
    elim (pid_eq x.pid p) as (λ b. (cond b (record x { events = x.events ++ e ∷ [] }) x).pid
    ≡ x.pid)
    [ true ↦ refl | false ↦ refl ]

-- a pid that is below all of these is none of them
pub all_apart : (ps : List Pid) (p : Pid) → AllByRecursion (IsBelow p) ps
    → AllByRecursion (λ q. pid_eq q p ≡ false) ps
all_apart [] p all = tt
all_apart (q ∷ ps) p all = (pid_eq-swap q p ∙ IsBelow-apart p q all.0, all_apart ps p all.1)

pub position_or_len-none : {A : Type 0} (test : A → Bool) (xs : List A)
    → AllByRecursion (λ x. test x ≡ false) xs
    → position_or_len test xs ≡ length xs
position_or_len-none test [] all = refl
position_or_len-none test (x ∷ xs) all =
    let rest = position_or_len-none test xs all.1 in
    ap (λ b. cond (not b) (1 + position_or_len test xs) 0) all.0 ∙ (omega arith)

pub position-none : {A : Type 0} (test : A → Bool) (xs : List A)
    → AllByRecursion (λ x. test x ≡ false) xs
    → position test xs ≡ None
position-none test xs all =
    let past = position_or_len-none test xs all in
    ap (λ b. cond b (Some (position_or_len test xs)) None)
    (le-ltb (position_or_len test xs) (length xs) (omega arith))
