-- Pids that rise strictly occur once and by rising node, since their order goes by node first. So
-- the places at which tests on nodes change their result bound the range of a node.
use Rattle.std.proofs.Common.{◌≡◌, ℕ, ◌<◌, ◌≤◌, ◌+◌, zero, suc, Bool, true, false, List, [], ◌∷◌}
use Rattle.std.proofs.Common.{length, get_or, take, cond, position, ltb, leb, refl, sym, ◌∙◌, ap}
use Rattle.std.proofs.Common.{subst, arith, inl, inr, ◌⊎◌, Some, None, slice_get}
use Rattle.std.specs.List.{list_any, position_or_len}
use Rattle.indexmap.specs.IndexSet.{insert_key}
use Rattle.std.specs.declared.cmp.Ordering.{Ordering}
use Rattle.std.specs.declared.cmp.Ordering.TheVariants.{Less, Equal, Greater}
use Rattle.std.specs.Ordering.{nat_cmp, ordering_then, MatchOrdering}
use Rattle.std.specs.List.Sorted.{IsNonDecreasingBy, IsPartitionPoint}
use Rattle.std.proofs.lemmas.Bool.{cases_eq, lt-ltb, ltb-true, ltb-false, leb-true, leb-false}
use Rattle.std.proofs.lemmas.List.{take_more}
use Rattle.std.proofs.lemmas.List.Elements.{All-from_recursion}
use Rattle.std.proofs.lemmas.List.Sums.{position_or_len_is}
use Rattle.std.proofs.lemmas.Option.{get_or_from_slice_get, slice_get_within}
use Rattle.std.proofs.lemmas.Cmp.{ranked}
use Rattle.st_core.specs.declared.types.Pid.{Pid}
use Rattle.st_core.specs.Pid.{pid_eq, IsBelow, IsRising}
use Rattle.st_core.proofs.ForCallers.{pid_eq-same, pid_eq-swap, IsBelow-apart, rising_at}
use Rattle.st_world.specs.Rows.{IsNodeRange}

-- a pid below another one differs from it
pub below_apart : (p q : Pid) → IsBelow p q → pid_eq q p ≡ false
below_apart p q below = pid_eq-swap q p ∙ IsBelow-apart p q below

-- THE ORDER OF NODES

node_by : (o rest : Ordering) (m n : ℕ) → MatchOrdering o (m < n) (m ≡ n) (n < m)
    → ordering_then o rest ≡ Less → m ≤ n
node_by Less rest m n is h = omega (arith, is)
node_by Equal rest m n is h = omega (arith, is)
node_by Greater rest m n is h = absurd (cc)

-- a lower pid has no higher node
below_node : (p q : Pid) → IsBelow p q → p.node ≤ q.node
below_node p q below =
    let nodes = ranked p.node q.node (nat_cmp p.node q.node) refl in
    node_by (nat_cmp p.node q.node) (nat_cmp p.number q.number) p.node q.node nodes below

pub nodes_rise : (ps : List Pid) → IsRising ps → IsNonDecreasingBy (λ p. p.node) ps
nodes_rise ps rising i j d le h =
    elim (cases_eq i j) [
      | inl e ↦ rw e (omega arith)
      | inr ne ↦ below_node (get_or ps i d) (get_or ps j d)
          (rising_at ps i j d rising (omega (arith, ne)) h)
    ]

-- THE NUMBERS OF PIDS

-- a pid is at no place before its own
pub number_at : (ps : List Pid) (i : ℕ) (p : Pid) → IsRising ps → slice_get ps i ≡ Some p
    → Some i ≡ position (λ q. pid_eq q p) ps
number_at ps i p rising at =
    let within = slice_get_within ps i p at in
    let here : get_or ps i p ≡ p = get_or_from_slice_get ps i p p at in
    let first = position_or_len_is (λ (q : Pid). pid_eq q p) ps i p (omega arith)
    (λ k less. IsBelow-apart (get_or ps k p) p
    (subst (IsBelow (get_or ps k p)) here (rising_at ps k i p rising less within)))
    (λ h. ap (λ (q : Pid). pid_eq q p) here ∙ pid_eq-same p) in
    let there : position_or_len (λ q. pid_eq q p) ps < length ps = omega (arith, within, first) in
    sym (ap (λ b. cond b (Some (position_or_len (λ q. pid_eq q p) ps)) None) (lt-ltb _ _ there)
    ∙ ap Some first)

absent : (ps : List Pid) (i : ℕ) (d : Pid)
    → IsRising ps → i < length ps → list_any (pid_eq (get_or ps i d)) (take i ps) ≡ false
absent [] i d rising h = absurd (omega arith)
absent (p ∷ ps) zero d rising h = refl
absent (p ∷ ps) (suc i) d rising h =
    let at : i < length ps = omega arith in
    let below : IsBelow p (get_or ps i d) = All-from_recursion (IsBelow p) ps rising.0 i d at in
    rw (below_apart p (get_or ps i d) below) (absent ps i d rising.1 at)

-- the next of the rising pids is not among those before, so it joins their set at its end
pub insert_next : (ps : List Pid) (i : ℕ) (d : Pid)
    → IsRising ps → i < length ps → insert_key pid_eq (take i ps) (get_or ps i d) ≡ take (i + 1) ps
insert_next ps i d rising h = rw (absent ps i d rising h) (sym (take_more ps i d h))

-- THE PROCESSES OF A NODE

pub cases_lt : (m n : ℕ) → (m < n) ⊎ (n ≤ m)
cases_lt m n = by (ltb m n) refl
  where
    by : (b : Bool) → ltb m n ≡ b → (m < n) ⊎ (n ≤ m)
    by true e = inl (ltb-true m n e)
    by false e = inr (omega (arith, ltb-false m n e))

-- the places at which the tests of two binary searches change their result bound the node's range
pub range_from_points : (node : ℕ) (ps : List Pid) (start end : ℕ) → start ≤ length ps
    → end ≤ length ps
    → IsPartitionPoint (λ p. ltb p.node node ≡ true) (λ p. ltb p.node node ≡ false) ps start
    → IsPartitionPoint (λ p. leb p.node node ≡ true) (λ p. leb p.node node ≡ false) ps end
    → IsNodeRange node ps start end
range_from_points node ps start end hs he first last =
    let below : (i : ℕ) (d : Pid) → i < start → (get_or ps i d).node < node =
    λ i d h. ltb-true (get_or ps i d).node node (first.0 i d (omega arith) h) in
    let after : (i : ℕ) (d : Pid) → end ≤ i → i < length ps → node < (get_or ps i d).node =
    λ i d h within. omega (arith, leb-false (get_or ps i d).node node (last.1 i d h within)) in
    let none : Pid = record { node = 0; number = 0 } in
    record {
      ends = elim (cases_lt end start) [
        | inl lt ↦
            absurd (omega (arith, below end none lt, after end none (omega arith) (omega arith)))
        | inr le ↦ le
      ];
      within = he;
      before = below;
      on = λ i d h lt.
          let n : ℕ = (get_or ps i d).node in
          let high : node ≤ (get_or ps i d).node =
          omega (arith, ltb-false n node (first.1 i d h (omega arith))) in
          let low : (get_or ps i d).node ≤ node = leb-true n node (last.0 i d (omega arith) lt) in
          omega arith;
      after = after;
    }
