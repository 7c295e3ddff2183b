-- In streams whose pids rise the events of a listed process are those of its stream, since no
-- earlier stream has its pid.
use Rattle.std.proofs.Common.{◌≡◌, ℕ, zero, suc, Bool, cond, List, [], ◌∷◌, drop, slice_get, Some}
use Rattle.std.proofs.Common.{None, ◌∙◌, ap}
use Rattle.std.specs.List.{AllByRecursion}
use Rattle.st_core.specs.Pid.{IsBelow, IsRising}
use Rattle.st_core.specs.Run.{Stream, pids_of}
use Rattle.st_core.specs.Streams.{stream_of, events_of}
use Rattle.st_core.proofs.ForCallers.{pid_eq-same, IsBelow-apart}

-- the rest of a list from an index on begins with the element there
pub drop_front : {A : Type 0} (xs : List A) (i : ℕ) (x : A) (rest : List A) → drop i xs ≡ x ∷ rest
    → (slice_get xs i ≡ Some x) × (drop (suc i) xs ≡ rest)
drop_front [] zero x rest h = absurd (cc)
drop_front [] (suc i) x rest h = absurd (cc)
drop_front (y ∷ xs) zero x rest h = (ap (λ l. slice_get l 0) h, ap (drop 1) h)
drop_front (y ∷ xs) (suc i) x rest h = drop_front xs i x rest h

-- the events that `all` has of each of these processes are those of its stream
abbrev pub AreFound : List Stream → List Stream → Type 0
AreFound all some = AllByRecursion (λ (s : Stream). events_of all s.pid ≡ s.events) some

found_later : (x : Stream) (streams rest : List Stream)
    → AllByRecursion (IsBelow x.pid) (pids_of rest)
    → AreFound streams rest → AreFound (x ∷ streams) rest
found_later x streams [] above found = tt
found_later x streams (s ∷ rest) above found = (
  ap (λ (b : Bool). elim (cond b (Some x) (stream_of streams s.pid)) [
    | None ↦ []
    | Some y ↦ y.events
  ])
      (IsBelow-apart x.pid s.pid above.0) ∙ found.0,
  found_later x streams rest above.1 found.1,
)

pub all_found : (streams : List Stream) → IsRising (pids_of streams) → AreFound streams streams
all_found [] rising = tt
all_found (x ∷ streams) rising = (
  ap (λ (b : Bool). elim (cond b (Some x) (stream_of streams x.pid)) [
    | None ↦ []
    | Some y ↦ y.events
  ])
      (pid_eq-same x.pid),
  found_later x streams streams rising.0 (all_found streams rising.1),
)
