-- The way back from an event, hop by hop.
use Rattle.std.specs.Prelude.{ℕ, ◌+◌, zero, suc, Bool, List, [], ◌∷◌, Option, Some, None}
use Rattle.std.specs.Prelude.{option_and_then, if◌then◌else◌}
use Rattle.st_core.specs.declared.types.Pid.{Pid}
use Rattle.st_core.specs.Run.{Stream}
use Rattle.st_pair.specs.Places.{event_at}
use Rattle.node_hops.specs.declared.node.Node.{Node}
use Rattle.node_hops.specs.declared.hop.NodeHop.{NodeHop}
use Rattle.node_hops.specs.declared.hop.NodeHop.TheVariants as hop
use Rattle.node_hops.specs.Hops.{node_hop_of}

-- the place that a hop of p's event leads to, if there is one; over a change of label only if
-- `across`
abbrev pub next_of : Bool → Pid → NodeHop → Option (Pid × ℕ)
next_of across p (hop.Sent q j) = Some (q, j)
next_of across p hop.Unsent = None
next_of across p (hop.After j) = Some (p, j)
next_of across p (hop.OtherLabel j label) = if across then Some (p, j) else None
next_of across p hop.Begins = None
next_of across p (hop.Moved k) = None

-- the place that the hop of a place leads to
abbrev pub next_at : List Stream → Bool → Pid × ℕ → Option (Pid × ℕ)
next_at streams across x =
    option_and_then (λ e. next_of across x.0 (node_hop_of streams x.0 x.1 e))
    (event_at streams x.0 x.1)

-- a place that is `depth` hops from the first one
abbrev pub node : ℕ → Pid × ℕ → Node
node depth x = record { depth = depth; place = x }

-- up to n places, from the given one back as far as hops lead; the given one is `depth` hops from
-- where the way began
abbrev pub way : List Stream → Bool → ℕ → ℕ → Option (Pid × ℕ) → List Node
way streams across zero depth at = []
way streams across (suc n) depth None = []
way streams across (suc n) depth (Some x) =
    node depth x ∷ way streams across n (depth + 1) (next_at streams across x)
