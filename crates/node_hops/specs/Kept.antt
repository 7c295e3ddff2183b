-- The tables of hops: the other ends of messages, and where rows begin.
use Rattle.std.specs.Prelude.{◌≡◌, ℕ, ◌+◌, List, [], ◌∷◌, map, Option}
use Rattle.st_core.specs.declared.types.Event.{Event}
use Rattle.st_core.specs.Run.{Stream}
use Rattle.st_core.specs.Streams.{IsStreams}
use Rattle.node_streams.specs.Messages.{all_partners}
use Rattle.node_hops.specs.Events.{row_first}

-- the index at which the row of each event from index k on begins
abbrev pub row_firsts_from : List Event → ℕ → List Event → List ℕ
row_firsts_from es k [] = []
row_firsts_from es k (e ∷ rest) = row_first e.serial.prev es k ∷ row_firsts_from es (k + 1) rest

abbrev pub row_firsts : List Event → List ℕ
row_firsts es = row_firsts_from es 0 es

-- the row beginnings of each process
abbrev pub all_row_firsts : List Stream → List (List ℕ)
all_row_firsts streams = map (λ s. row_firsts s.events) streams

pub record AreHopTables (streams : List Stream) (partners : List (List (Option ℕ)))
    (starts : List (List ℕ)) : Type 0 where
  pub sound : IsStreams streams
  pub paired : partners ≡ all_partners streams
  pub rows : starts ≡ all_row_firsts streams
