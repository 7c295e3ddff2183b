-- Streams with their counts replaced by others in the same order. Whether streams have a run
-- without a reset depends on the order of their counts alone, so large counts can be replaced by
-- their ranks.
use Rattle.std.specs.Prelude.{[], ◌≡◌, ℕ, ◌+◌, ◌<◌, zero, suc, nat_lt, List, ◌∷◌, map}
use Rattle.std.specs.Prelude.{if◌then◌else◌}
use Rattle.st_core.specs.declared.types.Event.{Event}
use Rattle.st_core.specs.Run.{Stream}

-- a map keeps the order of counts if it rises and leaves 0, where each clock starts, as it is
pub record KeepsOrder (f : ℕ → ℕ) : Type 0 where
  pub from_zero : f 0 ≡ 0
  pub rises : (m n : ℕ) → m < n → f m < f n

-- the event with both counts of its serial replaced
abbrev pub event_with : (ℕ → ℕ) → Event → Event
event_with f e = record e { serial = record { prev = f e.serial.prev; this = f e.serial.this } }

-- the streams with both counts of each serial replaced
abbrev pub with_counts : (ℕ → ℕ) → List Stream → List Stream
with_counts f streams =
    map (λ s. record { pid = s.pid; events = map (event_with f) s.events }) streams

-- a rising list of counts with c put in; a count that is there already isn't put in again
abbrev pub insert_count : ℕ → List ℕ → List ℕ
insert_count c [] = c ∷ []
insert_count c (d ∷ ds) =
    if nat_lt c d then c ∷ d ∷ ds else if nat_lt d c then d ∷ insert_count c ds else d ∷ ds

-- a rising list of counts with both counts of each event put in
abbrev pub insert_counts : List Event → List ℕ → List ℕ
insert_counts [] cs = cs
insert_counts (e ∷ es) cs =
    insert_count e.serial.prev (insert_count e.serial.this (insert_counts es cs))

-- 0 and all counts of the streams, each once, rising
abbrev pub counts_of : List Stream → List ℕ
counts_of [] = 0 ∷ []
counts_of (s ∷ rest) = insert_counts s.events (counts_of rest)

-- the rank of c: how many of the counts are less
abbrev pub rank : List ℕ → ℕ → ℕ
rank [] c = 0
rank (d ∷ ds) c = (if nat_lt d c then 1 else 0) + rank ds c

-- the streams with each count replaced by its rank
abbrev pub renumbered_streams : List Stream → List Stream
renumbered_streams streams = with_counts (rank (counts_of streams)) streams

-- the count with rank n; past the last count they go on by ones
abbrev pub count_of_rank : List ℕ → ℕ → ℕ
count_of_rank [] n = n
count_of_rank (c ∷ []) n = c + n
count_of_rank (c ∷ d ∷ ds) zero = c
count_of_rank (c ∷ d ∷ ds) (suc n) = count_of_rank (d ∷ ds) n
