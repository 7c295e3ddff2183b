-- The clocks that the walk keeps.
use Rattle.std.specs.Prelude.{◌≡◌, ℕ, max, ◌==◌, ◌&&◌, not, Bool, List, [], ◌∷◌, ◌++◌, map, filter}
use Rattle.node_machine.specs.Counts.{next_clock}
use Rattle.node_machine.specs.declared.types.Seen.{Seen}
use Rattle.node_machine.specs.declared.types.Reading.{Reading}
use Rattle.node_machine.specs.Premises.{IsAmong}
use Rattle.node_machine.specs.Readings.{clock_put_back, is_next, readings}

-- whether a lifted clock goes on to the stamp, and leads to another clock than a put-back
abbrev pub leads_elsewhere : ℕ → ℕ → Seen → ℕ → Bool
leads_elsewhere lift last e k =
    is_next (max k lift) last e && not (next_clock (max k lift) == clock_put_back e)

-- the clocks after a stamp, each of them once
abbrev pub clocks_by_stamp : ℕ → ℕ → Seen → List ℕ → List ℕ
clocks_by_stamp lift last e ks =
    map (λ k. next_clock (max k lift)) (filter (leads_elsewhere lift last e) ks)
    ++ clock_put_back e ∷ []

-- the clocks, lifted, are those of all readings of the events
pub record AreClocks (ks : List ℕ) (lift : ℕ) (es : List Seen) : Type 0 where
  pub sound : (k : ℕ) → IsAmong ks k
      → (r : Reading) × IsAmong (readings es) r × (r.clock ≡ max k lift)
  pub complete : (r : Reading) → IsAmong (readings es) r
      → (k : ℕ) × IsAmong ks k × (r.clock ≡ max k lift)
