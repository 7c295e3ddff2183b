-- A way of n hops is its first place and a way of one hop less from the next.
use Rattle.std.proofs.Common.{◌≡◌, ℕ, ◌+◌, ◌-◌, ◌<◌, zero, suc, Bool, List, [], ◌∷◌, ◌++◌, Option}
use Rattle.std.proofs.Common.{Some, None, refl, sym, ◌∙◌, ap, arith, append_assoc}
use Rattle.st_core.specs.declared.types.Pid.{Pid}
use Rattle.st_core.specs.Run.{Stream}
use Rattle.node_hops.specs.declared.node.Node.{Node}
use Rattle.node_hops.specs.Way.{next_at, node, way}

module _ (streams : List Stream) (across : Bool) where
  pub way_none : (n depth : ℕ) (at : Option (Pid × ℕ)) → at ≡ None
      → way streams across n depth at ≡ []
  way_none zero depth at is = refl
  way_none (suc n) depth None is = refl
  way_none (suc n) depth (Some x) is = absurd (cc)

  pub way_done : (n depth : ℕ) (at : Option (Pid × ℕ)) → n ≡ 0 → way streams across n depth at ≡ []
  way_done zero depth at is = refl
  way_done (suc n) depth at is = absurd (omega arith)

  way_some : (n depth : ℕ) (at : Option (Pid × ℕ)) (x : Pid × ℕ) → at ≡ Some x
      → way streams across (suc n) depth at ≡ node depth x
      ∷ way streams across n (depth + 1) (next_at streams across x)
  way_some n depth at x is = ap (way streams across (suc n) depth) is

  pub way_passed : (most depth : ℕ) (before total : List Node) (at next : Option (Pid × ℕ))
      (x : Pid × ℕ)
      → depth < most → at ≡ Some x → next ≡ next_at streams across x
      → before ++ way streams across (most - depth) depth at ≡ total
      → (before ++ node depth x ∷ []) ++ way streams across (most - (depth + 1)) (depth + 1) next
      ≡ total
  way_passed most depth before total at next x less is then far =
      let number : suc (most - (depth + 1)) ≡ most - depth = omega arith in
      let left = most - (depth + 1) in
      append_assoc before (node depth x ∷ []) (way streams across left (depth + 1) next)
      ∙ ap (λ o. before ++ node depth x ∷ way streams across left (depth + 1) o) then
      ∙ ap (λ (l : List Node). before ++ l) (sym (way_some left depth at x is))
      ∙ ap (λ n. before ++ way streams across n depth at) number
      ∙ far
