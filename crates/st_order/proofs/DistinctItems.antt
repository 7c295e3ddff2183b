-- No two items have the same key, since items at different places are different, and different
-- items have different keys.
use Rattle.std.proofs.Common.{◌≡◌, ℕ, ◌+◌, ◌≤◌, Bool, true, false, cond, List, [], ◌∷◌, None, refl}
use Rattle.std.proofs.Common.{sym, ◌∙◌, ap, subst, arith}
use Rattle.std.specs.List.{AllByRecursion, IsDistinct}
use Rattle.st_core.specs.declared.types.Pid.{Pid}
use Rattle.st_core.specs.declared.types.Event.{Event}
use Rattle.st_core.specs.Pid.{pid_eq, IsBelow, IsRising}
use Rattle.st_core.specs.Run.{Stream, pids_of}
use Rattle.st_core.proofs.ForCallers.{pid_eq-same, IsBelow-apart}
use Rattle.st_pair.specs.Places.{first}
use Rattle.st_pair.specs.Pairing.{repeated}
use Rattle.st_order.specs.declared.item.Item.{Item}
use Rattle.st_order.specs.declared.item.Item.TheVariants as item
use Rattle.st_order.specs.Items.{is_hidden, items_at, items_from, items_among, items}
use Rattle.st_order.proofs.Keys.{IsKeyed, same_key, one_item, items_keyed}
use Rattle.st_order.proofs.Lists.{all_append, all_left, all_right, all_mapped, all_both}
use Rattle.st_order.proofs.Lists.{all_crossed, distinct_append}

-- the process in whose stream an item has its place
abbrev reporter_of : Item → Pid
reporter_of (item.Reported p i) = p
reporter_of (item.Hidden p i) = p

abbrev pub index_of : Item → ℕ
index_of (item.Reported p i) = i
index_of (item.Hidden p i) = i

abbrev is_reported : Item → Bool
is_reported (item.Reported p i) = true
is_reported (item.Hidden p i) = false

-- the item is at index i of p, or later
record IsFrom (p : Pid) (i : ℕ) (x : Item) : Type 0 where
  pub reporter : reporter_of x ≡ p
  pub index : i ≤ index_of x

record IsHere (p : Pid) (i : ℕ) (x : Item) : Type 0 where
  pub reporter : reporter_of x ≡ p
  pub index : index_of x ≡ i

at_here : (streams : List Stream) (p : Pid) (i : ℕ) (e : Event)
    → AllByRecursion (IsHere p i) (items_at streams p i e)
at_here streams p i e = elim (is_hidden streams e) as (λ b. AllByRecursion (IsHere p i)
    (cond b (item.Hidden p i ∷ item.Reported p i ∷ []) (item.Reported p i ∷ []))) [
      | true ↦ (
        record { reporter = refl; index = refl },
        (record { reporter = refl; index = refl }, tt),
      )
      | false ↦ (record { reporter = refl; index = refl }, tt)
    ]

from_from : (streams : List Stream) (p : Pid) (i : ℕ) (es : List Event)
    → AllByRecursion (IsFrom p i) (items_from streams p i es)
from_from streams p i [] = tt
from_from streams p i (e ∷ es) =
    all_append (IsFrom p i) (items_at streams p i e) (items_from streams p (i + 1) es)
    (all_mapped (IsHere p i) (IsFrom p i) (items_at streams p i e)
    (λ x here. record { reporter = here.reporter; index = let n = here.index in omega arith })
    (at_here streams p i e))
    (all_mapped (IsFrom p (i + 1)) (IsFrom p i) (items_from streams p (i + 1) es)
    (λ x from. record { reporter = from.reporter; index = let n = from.index in omega arith })
    (from_from streams p (i + 1) es))

others_above : (streams some : List Stream) (p : Pid) → AllByRecursion (IsBelow p) (pids_of some)
    → AllByRecursion (λ x. IsBelow p (reporter_of x)) (items_among streams some)
others_above streams [] p above = tt
others_above streams (s ∷ rest) p above =
    all_append (λ x. IsBelow p (reporter_of x)) (items_from streams s.pid 0 s.events)
    (items_among streams rest)
    (all_mapped (IsFrom s.pid 0) (λ x. IsBelow p (reporter_of x))
    (items_from streams s.pid 0 s.events)
    (λ x from. subst (IsBelow p) (sym from.reporter) above.0) (from_from streams s.pid 0 s.events))
    (others_above streams rest p above.1)

below_other : (p q : Pid) → IsBelow p q → p ≡ q → ⊥
below_other p q below same =
    let apart = IsBelow-apart p q below in
    let alike : pid_eq p q ≡ true = ap (pid_eq p) (sym same) ∙ pid_eq-same p in
    let clash : true ≡ false = sym alike ∙ apart in
    absurd (cc)

apart_from : (streams : List Stream) (x y : Item) → IsKeyed streams x → IsKeyed streams y
    → (x ≡ y → ⊥) → same_key streams x y ≡ false
apart_from streams x y a b differ =
    elim (same_key streams x y) as (λ t. same_key streams x y ≡ t → t ≡ false) [
      | true ↦ λ is. absurd (differ (one_item streams x y a b is))
      | false ↦ λ is. refl
    ] refl

module _ (streams : List Stream) where
  abbrev Keyed : Item → Type 0
  Keyed = IsKeyed streams

  abbrev Distinct : List Item → Type 0
  Distinct = IsDistinct (same_key streams)

  at_apart : (p : Pid) (i : ℕ) (e : Event) → AllByRecursion Keyed (items_at streams p i e)
      → Distinct (items_at streams p i e)
  unfolding IsDistinct
  at_apart p i e all = elim (is_hidden streams e) as (λ b. AllByRecursion Keyed
      (cond b (item.Hidden p i ∷ item.Reported p i ∷ []) (item.Reported p i ∷ []))
      → Distinct (cond b (item.Hidden p i ∷ item.Reported p i ∷ []) (item.Reported p i ∷ []))) [
        | true ↦ λ xs. (
          (
            apart_from streams (item.Hidden p i) (item.Reported p i) xs.0 xs.1.0
                (λ same. let clash = ap is_reported same in absurd (cc)),
            tt,
          ),
          (tt, tt),
        )
        | false ↦ λ xs. (tt, tt)
      ] all

  from_apart : (p : Pid) (i : ℕ) (es : List Event)
      → AllByRecursion Keyed (items_from streams p i es) → Distinct (items_from streams p i es)
  unfolding IsDistinct
  from_apart p i [] all = tt
  from_apart p i (e ∷ es) all =
      let xs = items_at streams p i e in
      let ys = items_from streams p (i + 1) es in
      let first = all_left Keyed xs ys all in
      let rest = all_right Keyed xs ys all in
      distinct_append (same_key streams) xs ys (at_apart p i e first) (from_apart p (i + 1) es rest)
      (all_crossed (λ x. Keyed x × IsHere p i x) (λ x. Keyed x × IsFrom p (i + 1) x)
      (λ x y. same_key streams x y ≡ false) xs ys
      (λ x y a b. apart_from streams x y a.0 b.0
      (λ same. let one = a.1.index in let two = b.1.index in let three = ap index_of same in
      absurd (omega arith)))
      (all_both Keyed (IsHere p i) xs first (at_here streams p i e))
      (all_both Keyed (IsFrom p (i + 1)) ys rest (from_from streams p (i + 1) es)))

  among_apart : (some : List Stream) → IsRising (pids_of some)
      → AllByRecursion Keyed (items_among streams some) → Distinct (items_among streams some)
  unfolding IsDistinct
  among_apart [] rising all = tt
  among_apart (s ∷ some) rising all =
      let xs = items_from streams s.pid 0 s.events in
      let ys = items_among streams some in
      let first = all_left Keyed xs ys all in
      let rest = all_right Keyed xs ys all in
      distinct_append (same_key streams) xs ys (from_apart s.pid 0 s.events first)
      (among_apart some rising.1 rest)
      (all_crossed (λ x. Keyed x × IsFrom s.pid 0 x) (λ x. Keyed x × IsBelow s.pid (reporter_of x))
      (λ x y. same_key streams x y ≡ false) xs ys
      (λ x y a b. apart_from streams x y a.0 b.0
      (λ same. below_other s.pid (reporter_of y) b.1 (sym a.1.reporter ∙ ap reporter_of same)))
      (all_both Keyed (IsFrom s.pid 0) xs first (from_from streams s.pid 0 s.events))
      (all_both Keyed (λ x. IsBelow s.pid (reporter_of x)) ys rest
      (others_above streams some s.pid rising.0)))

  pub items_apart : IsRising (pids_of streams) → first (repeated streams) streams ≡ None
      → Distinct (items streams)
  items_apart rising once = among_apart streams rising (items_keyed streams once rising)
