-- A rule's first fault, at a loop's index and in what is left.
use Rattle.std.proofs.Common.{◌≡◌, ℕ, ◌+◌, ◌<◌, zero, suc, List, [], ◌∷◌, length, get_or, drop}
use Rattle.std.proofs.Common.{Option, None, Some}
use Rattle.std.proofs.Common.{slice_get, refl, sym, ◌∙◌, ap, subst, arith, add-one}
use Rattle.std.proofs.lemmas.Option.{same_Some, slice_get-get_or}
use Rattle.st_core.specs.declared.types.Pid.{Pid}
use Rattle.st_core.specs.declared.types.Event.{Event}
use Rattle.st_core.specs.Pid.{IsRising}
use Rattle.st_core.specs.Run.{Stream, pids_of}
use Rattle.st_core.specs.Streams.{stream_of, events_of}
use Rattle.st_core.proofs.ForCallers.{above_apart, pid_eq-same}
use Rattle.st_pair.specs.Places.{first_from, first, or_else}

module _ {X : Type 0} where
  pub or_none : (o : Option X) → or_else o None ≡ o
  or_none None = refl
  or_none (Some x) = refl

  pub or_assoc : (a b c : Option X) → or_else (or_else a b) c ≡ or_else a (or_else b c)
  or_assoc None b c = refl
  or_assoc (Some x) b c = refl

module _ {X : Type 0} (rule : Pid → ℕ → Event → Option X) where
  -- the event at the front of what is left, and then the rest
  pub first_from-at : (p : Pid) (i k : ℕ) (es : List Event) (e : Event) → slice_get es k ≡ Some e
      → first_from rule p i (drop k es)
      ≡ or_else (rule p i e) (first_from rule p (i + 1) (drop (suc k) es))
  first_from-at p i k [] e at = absurd (cc)
  first_from-at p i zero (f ∷ es) e at =
      ap (λ (x : Event). or_else (rule p i x) (first_from rule p (i + 1) es))
      (same_Some f e at)
  first_from-at p i (suc k) (f ∷ es) e at = first_from-at p i k es e at

  -- the same in a loop over the events
  pub first_from-step : (p : Pid) (i : ℕ) (es : List Event) (e : Event) → slice_get es i ≡ Some e
      → first_from rule p i (drop i es)
      ≡ or_else (rule p i e) (first_from rule p (i + 1) (drop (i + 1) es))
  first_from-step p i es e at =
      let next : suc i ≡ i + 1 = omega arith in
      first_from-at p i i es e at
      ∙ ap (λ (n : ℕ). or_else (rule p i e) (first_from rule p (i + 1) (drop n es))) next

  -- past an event at which it gives nothing
  pub first_from-passed : (p : Pid) (i : ℕ) (es : List Event) (e : Event) → slice_get es i ≡ Some e
      → rule p i e ≡ None
      → first_from rule p 0 es ≡ first_from rule p i (drop i es)
      → first_from rule p 0 es ≡ first_from rule p (i + 1) (drop (i + 1) es)
  first_from-passed p i es e at none far = far ∙ first_from-step p i es e at
      ∙ ap (λ (o : Option X). or_else o (first_from rule p (i + 1) (drop (i + 1) es))) none

  -- at an event at which it gives something
  pub first_from-given : (p : Pid) (i : ℕ) (es : List Event) (e : Event) (x : X)
      → slice_get es i ≡ Some e
      → rule p i e ≡ Some x → first_from rule p 0 es ≡ first_from rule p i (drop i es)
      → first_from rule p 0 es ≡ Some x
  first_from-given p i es e x at given far = far ∙ first_from-step p i es e at
      ∙ ap (λ (o : Option X). or_else o (first_from rule p (i + 1) (drop (i + 1) es))) given

  pub first_from-end : (p : Pid) (i k : ℕ) (es : List Event) → length es ≡ k
      → first_from rule p i (drop k es) ≡ None
  first_from-end p i zero [] len = refl
  first_from-end p i (suc k) [] len = refl
  first_from-end p i zero (f ∷ es) len = absurd (omega arith)
  first_from-end p i (suc k) (f ∷ es) len = first_from-end p i k es (omega arith)

  first-drop : (k : ℕ) (streams : List Stream) (s : Stream) → slice_get streams k ≡ Some s
      → first rule (drop k streams)
      ≡ or_else (first_from rule s.pid 0 s.events) (first rule (drop (suc k) streams))
  first-drop k [] s at = absurd (cc)
  first-drop zero (x ∷ streams) s at =
      ap (λ (x : Stream). or_else (first_from rule x.pid 0 x.events) (first rule streams))
      (same_Some x s at)
  first-drop (suc k) (x ∷ streams) s at = first-drop k streams s at

-- the stream at a place
pub record IsAt (streams : List Stream) (k : ℕ) (p : Pid) : Type 0 where
  pub stream : Stream
  pub at : slice_get streams k ≡ Some stream
  pub pid : stream.pid ≡ p
  pub found : stream_of streams p ≡ Some stream

pub is_at : (streams : List Stream) (k : ℕ) (p : Pid) → IsRising (pids_of streams)
    → slice_get (pids_of streams) k ≡ Some p → IsAt streams k p
is_at [] k p rising at = absurd (cc)
is_at (x ∷ streams) zero p rising at =
    let same = same_Some x.pid p at in
    record { stream = x; at = refl; pid = same; found = rw (same, pid_eq-same p) refl }
is_at (x ∷ streams) (suc k) p rising at =
    let rest = is_at streams k p rising.1 at in
    record {
      stream = rest.stream;
      at = rest.at;
      pid = rest.pid;
      found = rw (above_apart (pids_of streams) x.pid p k rising.0 at) rest.found;
    }

abbrev pub events_in : Option Stream → List Event
events_in o = elim o [ None ↦ [] | Some x ↦ x.events ]

module _ {X : Type 0} (rule : Pid → ℕ → Event → Option X) where
  -- the process at the front of what is left, and then the rest
  pub first-at : (k : ℕ) (streams : List Stream) (p : Pid) → IsRising (pids_of streams)
      → slice_get (pids_of streams) k ≡ Some p
      → first rule (drop k streams) ≡ or_else (first_from rule p 0 (events_of streams p))
      (first rule (drop (suc k) streams))
  first-at k streams p rising at =
      let s = is_at streams k p rising at in
      let events : s.stream.events ≡ events_of streams p = sym (ap events_in s.found) in
      first-drop rule k streams s.stream s.at
      ∙ ap (λ (q : Pid). or_else (first_from rule q 0 s.stream.events)
      (first rule (drop (suc k) streams))) s.pid
      ∙ ap (λ (es : List Event).
      or_else (first_from rule p 0 es) (first rule (drop (suc k) streams))) events

module _ {X : Type 0} (rule : Pid → ℕ → Event
    → Option X) (streams : List Stream) (rising : IsRising (pids_of streams)) where
  -- the same in a loop over the pids
  pub first-loop : (pids : List Pid) (k : ℕ) (d : Pid) → pids ≡ pids_of streams → k < length pids
      → first rule (drop k streams) ≡ or_else
      (first_from rule (get_or pids k d) 0 (events_of streams (get_or pids k d)))
      (first rule (drop (k + 1) streams))
  first-loop pids k d are within =
      let at = slice_get-get_or pids k d within in
      rw add-one (first-at rule k streams (get_or pids k d) rising
      (subst (λ (ps : List Pid). slice_get ps k ≡ Some (get_or pids k d)) are at))

  -- of events that are the process's
  pub first-events : (pids : List Pid) (k : ℕ) (d : Pid) (es : List Event) → pids ≡ pids_of streams
      → k < length pids
      → es ≡ events_of streams (get_or pids k d)
      → first rule (drop k streams)
      ≡ or_else (first_from rule (get_or pids k d) 0 es) (first rule (drop (k + 1) streams))
  first-events pids k d es are within events = first-loop pids k d are within
      ∙ ap (λ (l : List Event). or_else (first_from rule (get_or pids k d) 0 l)
      (first rule (drop (k + 1) streams)))
      (sym events)

  -- a process that gives something
  pub first-given : (pids : List Pid) (k : ℕ) (d : Pid) (x : X) → pids ≡ pids_of streams
      → k < length pids
      → Some x ≡ first_from rule (get_or pids k d) 0 (events_of streams (get_or pids k d))
      → first rule streams ≡ first rule (drop k streams) → Some x ≡ first rule streams
  first-given pids k d x are within given far = sym (far ∙ first-loop pids k d are within
      ∙ ap (λ (o : Option X). or_else o (first rule (drop (k + 1) streams))) (sym given))

  -- a process that gives nothing
  pub first-passed : (pids : List Pid) (k : ℕ) (d : Pid) → pids ≡ pids_of streams → k < length pids
      → None ≡ first_from rule (get_or pids k d) 0 (events_of streams (get_or pids k d))
      → first rule streams ≡ first rule (drop k streams)
      → first rule streams ≡ first rule (drop (k + 1) streams)
  first-passed pids k d are within given far = far ∙ first-loop pids k d are within
      ∙ ap (λ (o : Option X). or_else o (first rule (drop (k + 1) streams))) (sym given)

  -- a table that takes up what a process gives
  pub table-passed : (before after : Option X) (pids : List Pid) (k : ℕ) (d : Pid) (es : List Event)
      → pids ≡ pids_of streams → k < length pids → es ≡ events_of streams (get_or pids k d)
      → after ≡ or_else before (first_from rule (get_or pids k d) 0 es)
      → or_else before (first rule (drop k streams)) ≡ first rule streams
      → or_else after (first rule (drop (k + 1) streams)) ≡ first rule streams
  table-passed before after pids k d es are within events given far =
      let here : after ≡ or_else before
      (first_from rule (get_or pids k d) 0 (events_of streams (get_or pids k d))) =
      subst (λ (l : List Event). after ≡ or_else before (first_from rule (get_or pids k d) 0 l))
      events given in
      ap (λ (o : Option X). or_else o (first rule (drop (k + 1) streams))) here
      ∙ or_assoc before _ _
      ∙ ap (or_else before) (sym (first-loop pids k d are within)) ∙ far
