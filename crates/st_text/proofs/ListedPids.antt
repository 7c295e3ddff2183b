-- Pids rise, so looking up a stream's pid finds that stream; and if no act fails the test, each
-- passes it.
use Rattle.std.proofs.Common.{◌≡◌, ℕ, ◌+◌, Bool, true, false, not, ◌&&◌, cond, List, [], ◌∷◌, ◌++◌}
use Rattle.std.proofs.Common.{Option, Some, None, refl, sym, ap, ◌∙◌}
use Rattle.std.specs.Prelude.{position}
use Rattle.std.specs.List.{list_all, position_from, flat_map, AllByRecursion}
use Rattle.std.proofs.lemmas.Iterator.Adapters.{position_from-zero}
use Rattle.st_core.specs.declared.types.Pid.{Pid}
use Rattle.st_core.specs.declared.types.Event.{Event}
use Rattle.st_core.specs.Pid.{pid_eq, IsBelow, IsRising}
use Rattle.st_core.specs.Run.{Stream, pids_of}
use Rattle.st_core.specs.Streams.{stream_of, events_of}
use Rattle.st_core.proofs.ForCallers.{pid_eq-same, IsBelow-apart}
use Rattle.st_text.specs.declared.line.Line.{Line}
use Rattle.st_text.specs.Text.{process_lines}

none_from : {A : Type 0} (p : A → Bool) (i : ℕ) (xs : List A)
    → position_from (λ x. not (p x)) i xs ≡ None
    → list_all p xs ≡ true
none_from p i [] e = refl
none_from p i (x ∷ xs) e = by (p x) e (none_from p (i + 1) xs)
  where
    by : (t : Bool) → cond (not t) (Some i) (position_from (λ x. not (p x)) (i + 1) xs) ≡ None
        → (position_from (λ x. not (p x)) (i + 1) xs ≡ None → list_all p xs ≡ true)
        → (t && list_all p xs) ≡ true
    by true e more = more e
    by false e more = absurd cc

pub none_unlisted : {A : Type 0} (p : A → Bool) (xs : List A) → position (λ x. not (p x)) xs ≡ None
    → list_all p xs ≡ true
none_unlisted p xs e = none_from p 0 xs (sym (position_from-zero (λ x. not (p x)) xs) ∙ e)

-- ---- streams by their pids

-- the stream of p with these events
abbrev pub stream_at : (Pid → List Event) → Pid → Stream
stream_at f p = record { pid = p; events = f p }

by_events : (ss : List Stream) (f : Pid → List Event) → AllByRecursion (λ s. f s.pid ≡ s.events) ss
    → flat_map process_lines ss ≡ flat_map (λ p. process_lines (stream_at f p)) (pids_of ss)
by_events [] f all = refl
by_events (s ∷ ss) f all =
    ap (λ (x : List Event). process_lines (record { pid = s.pid; events = x })
    ++ flat_map process_lines ss)
    (sym all.0)
    ∙ ap (λ (x : List Line). process_lines (stream_at f s.pid) ++ x) (by_events ss f all.1)

found : Option Stream → List Event
found None = []
found (Some x) = x.events

events_here : (s : Stream) (rest : List Stream) (p : Pid) → pid_eq s.pid p ≡ true
    → events_of (s ∷ rest) p ≡ s.events
unfolding found
events_here s rest p e = let at : stream_of (s ∷ rest) p ≡ Some s = rw e refl in ap found at

events_behind : (s : Stream) (rest : List Stream) (p : Pid) → pid_eq s.pid p ≡ false
    → events_of (s ∷ rest) p ≡ events_of rest p
unfolding found
events_behind s rest p e = let at : stream_of (s ∷ rest) p ≡ stream_of rest p = rw e refl in
    ap found at

-- the other streams are found after the first
behind : (s : Stream) (rest ss : List Stream) → AllByRecursion (IsBelow s.pid) (pids_of ss)
    → AllByRecursion (λ r. events_of rest r.pid ≡ r.events) ss
    → AllByRecursion (λ r. events_of (s ∷ rest) r.pid ≡ r.events) ss
behind s rest [] below all = tt
behind s rest (r ∷ ss) below all =
    let apart : pid_eq s.pid r.pid ≡ false = IsBelow-apart s.pid r.pid below.0 in
    (events_behind s rest r.pid apart ∙ all.0, behind s rest ss below.1 all.1)

pub own_events : (ss : List Stream) → IsRising (pids_of ss)
    → AllByRecursion (λ s. events_of ss s.pid ≡ s.events) ss
own_events [] rising = tt
own_events (s ∷ ss) rising =
    (events_here s ss s.pid (pid_eq-same s.pid), behind s ss ss rising.0 (own_events ss rising.1))

-- The lines of streams are those of their pids, each with its events.
pub by_pids : (ss : List Stream) → IsRising (pids_of ss)
    → flat_map process_lines ss ≡ flat_map (λ p. process_lines (stream_at (events_of ss) p))
    (pids_of ss)
by_pids ss rising = by_events ss (events_of ss) (own_events ss rising)
