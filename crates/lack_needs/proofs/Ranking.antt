-- Among rising counts the lesser ones come first, so the place where the others begin is the rank.
-- And each process comes after those before it, so that only memory can run out.
use Rattle.std.proofs.Common.{◌≡◌, ℕ, ◌+◌, zero, suc, ◌<◌, ◌≤◌, nat_lt, true, false, cond, List, []}
use Rattle.std.proofs.Common.{◌∷◌, ◌++◌, map, length, take, get_or, slice_get, Option, Some, None}
use Rattle.std.proofs.Common.{is_some, option_map, refl, sym, ◌∙◌, ap, subst, arith}
use Rattle.std.specs.List.{AllByRecursion}
use Rattle.std.proofs.lemmas.List.{map_more, take_more}
use Rattle.std.proofs.lemmas.Option.{slice_get-map}
use Rattle.st_core.specs.declared.types.Pid.{Pid}
use Rattle.st_core.specs.declared.types.Event.{Event}
use Rattle.st_core.specs.Pid.{pid_eq, IsBelow, IsRising}
use Rattle.st_core.specs.Run.{Stream, pids_of}
use Rattle.st_core.specs.Streams.{added, AreOwn, ComesLast, events_of, is_own, lists, stream_of}
use Rattle.st_core.proofs.ForCallers.{all_at, IsBelow-apart, pid_eq-refl}
use Rattle.st_pair.proofs.ForCallers.{blank, take_map, stream_here}
use Rattle.lack_laws.specs.Renumbering.{event_with, rank, with_counts}
use Rattle.lack_needs.specs.Counts.{ranked_stream}

-- RANKS

none_less : (xs : List ℕ) (c : ℕ) → ((k d : ℕ) → k < length xs → nat_lt (get_or xs k d) c ≡ false)
    → rank xs c ≡ 0
none_less [] c each = refl
none_less (x ∷ xs) c each =
    let rest = none_less xs c (λ k d within. each (suc k) d (omega (arith, within))) in
    ap (λ b. cond b 1 0 + rank xs c) (each 0 0 (omega arith)) ∙ (omega arith)

-- the rank is the place before which all counts are less, and after which none is
pub rank_is : (xs : List ℕ) (c i : ℕ) → i ≤ length xs
    → ((k d : ℕ) → k < i → nat_lt (get_or xs k d) c ≡ true)
    → ((k d : ℕ) → i ≤ k → k < length xs → nat_lt (get_or xs k d) c ≡ false) → rank xs c ≡ i
rank_is xs c zero bound before behind = none_less xs c
    (λ k d within. behind k d (omega arith) within)
rank_is [] c (suc i) bound before behind = absurd (omega arith)
rank_is (x ∷ xs) c (suc i) bound before behind =
    let rest = rank_is xs c i (omega arith) (λ k d less. before (suc k) d (omega (arith, less)))
    (λ k d past within. behind (suc k) d (omega (arith, past)) (omega (arith, within))) in
    ap (λ b. cond b 1 0 + rank xs c) (before 0 0 (omega arith)) ∙ (omega arith)

-- A PROCESS THAT COMES LAST

pub lists_last : (xs : List Stream) (p : Pid) (es : List Event)
    → lists (xs ++ record { pid = p; events = es } ∷ []) p ≡ true
lists_last [] p es =
    ap (λ b. let o : Option Stream = cond b (Some (record { pid = p; events = es })) None in
    is_some o) (pid_eq-refl p)
lists_last (x ∷ xs) p es =
    elim (pid_eq x.pid p) as (λ b. let o : Option Stream =
    cond b (Some x) (stream_of (xs ++ record { pid = p; events = es } ∷ []) p) in is_some o ≡ true)
    [ true ↦ refl | false ↦ lists_last xs p es ]

pub added_last : (xs : List Stream) (p : Pid) (es : List Event) (e : Event) → ComesLast xs p
    → added (xs ++ record { pid = p; events = es } ∷ []) p e ≡ xs
    ++ record { pid = p; events = es ++ e ∷ [] } ∷ []
added_last [] p es e last =
    ap (λ b. let x : Stream = cond b (record { pid = p; events = es ++ e ∷ [] })
    (record { pid = p; events = es }) in
    x ∷ []) (pid_eq-refl p)
added_last (x ∷ xs) p es e last =
    ap (λ b. let y : Stream = cond b (record x { events = x.events ++ e ∷ [] }) x in
    y ∷ added (xs ++ record { pid = p; events = es } ∷ []) p e) (IsBelow-apart x.pid p last.0)
    ∙ ap (λ ys. x ∷ ys) (added_last xs p es e last.1)

-- one more event has its ranks
pub ranked_more : (counts : List ℕ) (old now next : List Stream) (p : Pid) (es : List Event) (i : ℕ)
    → ComesLast old p → i < length es → now ≡ old ++ ranked_stream counts p (take i es) ∷ []
    → next ≡ added now p (event_with (rank counts) (get_or es i blank))
    → next ≡ old ++ ranked_stream counts p (take (i + 1) es) ∷ []
ranked_more counts old now next p es i last within is step =
    let f = event_with (rank counts) in
    step
    ∙ ap (λ xs. added xs p (f (get_or es i blank))) is
    ∙ added_last old p (map f (take i es)) (f (get_or es i blank)) last
    ∙ sym (ap (λ fs. old ++ record { pid = p; events = fs } ∷ []) (map_more f es i blank within))

-- THE STREAMS SO FAR

-- a process comes after those before it
pub last_of : (streams : List Stream) (k : ℕ) (x : Stream) → IsRising (pids_of streams)
    → slice_get streams k ≡ Some x → ComesLast (take k streams) x.pid
last_of [] k x rising at = absurd (cc)
last_of (y ∷ streams) zero x rising at = tt
last_of (y ∷ streams) (suc k) x rising at =
    let there : slice_get (pids_of streams) k ≡ Some x.pid =
    slice_get-map (λ (s : Stream). s.pid) streams k
    ∙ ap (λ o. option_map (λ (s : Stream). s.pid) o) at in (
      all_at (IsBelow y.pid) (pids_of streams) k x.pid rising.0 there,
      last_of streams k x rising.1
          at,
    )

module _ (f : ℕ → ℕ) where
  still_last : (streams : List Stream) (p : Pid) → ComesLast streams p
      → ComesLast (with_counts f streams) p
  still_last [] p last = tt
  still_last (x ∷ streams) p last = (last.0, still_last streams p last.1)

  pub comes_last : (streams : List Stream) (pids : List Pid) (k : ℕ) (d : Pid) (now : List Stream)
      → IsRising (pids_of streams) → pids ≡ pids_of streams → k < length pids
      → now ≡ with_counts f (take k streams) → ComesLast now (get_or pids k d)
  comes_last streams pids k d now rising are within is =
      let at = stream_here streams pids k d (events_of streams (get_or pids k d)) rising are within
      refl in
      let last = last_of streams k _ rising at in
      subst (λ xs. ComesLast xs (get_or pids k d)) (sym is) (still_last (take k streams) _ last)

-- THE EVENTS OF A PROCESS

pub own_events : (streams : List Stream) (pids : List Pid) (k : ℕ) (d : Pid) (es : List Event)
    → IsRising (pids_of streams) → AreOwn streams → pids ≡ pids_of streams → k < length pids
    → es ≡ events_of streams (get_or pids k d) → AllByRecursion
    (λ e. is_own (get_or pids k d) e ≡ true) es
own_events streams pids k d es rising own are within is =
    let at = stream_here streams pids k d es rising are within is in
    all_at (λ (x : Stream). AllByRecursion (λ e. is_own x.pid e ≡ true) x.events) streams k _ own at

-- one more process has its ranks
pub streams_more : (counts : List ℕ) (streams : List Stream) (pids : List Pid) (k : ℕ) (d : Pid)
    (es : List Event)
    (now next : List Stream) → IsRising (pids_of streams) → pids ≡ pids_of streams → k < length pids
    → es ≡ events_of streams (get_or pids k d) → now ≡ with_counts (rank counts) (take k streams)
    → next ≡ now ++ ranked_stream counts (get_or pids k d) es ∷ []
    → next ≡ with_counts (rank counts) (take (k + 1) streams)
streams_more counts streams pids k d es now next rising are within is so_far step =
    let at = stream_here streams pids k d es rising are within is in
    let one : suc k ≡ k + 1 = omega arith in
    step
    ∙ ap (λ xs. xs ++ ranked_stream counts (get_or pids k d) es ∷ []) so_far
    ∙ sym (take_map (λ (x : Stream). ranked_stream counts x.pid x.events) streams k _ at)
    ∙ ap (λ n. with_counts (rank counts) (take n streams)) one

-- THE EVENTS OF A PROCESS

-- one more event comes last
pub event_more : (old now next : List Stream) (p : Pid) (es : List Event) (i : ℕ) → ComesLast old p
    → i < length es → now ≡ old ++ record { pid = p; events = take i es } ∷ []
    → next ≡ added now p (get_or es i blank)
    → next ≡ old ++ record { pid = p; events = take (i + 1) es } ∷ []
event_more old now next p es i last within is step =
    step
    ∙ ap (λ xs. added xs p (get_or es i blank)) is
    ∙ added_last old p (take i es) (get_or es i blank) last
    ∙ sym (ap (λ fs. old ++ record { pid = p; events = fs } ∷ []) (take_more es i blank within))
