-- An order holds all items of its streams, since at each place the items are the event and, for a
-- receive without a reported send, the hidden send.
use Rattle.std.proofs.Common.{◌≡◌, ℕ, zero, suc, ◌+◌, true, false, cond, List, [], ◌∷◌, ◌++◌, Some}
use Rattle.std.proofs.Common.{None, refl, sym, ◌∙◌, ap, subst, arith, inl, inr}
use Rattle.std.specs.List.{slice_get}
use Rattle.std.proofs.lemmas.Option.{same_Some, none-some}
use Rattle.std.proofs.lemmas.List.Sorted.{IsPermutation-sym}
use Rattle.st_core.specs.declared.types.Pid.{Pid}
use Rattle.st_core.specs.declared.types.Event.{Event}
use Rattle.st_core.specs.Pid.{pid_eq}
use Rattle.st_core.specs.Run.{Stream}
use Rattle.st_core.specs.Streams.{stream_of}
use Rattle.st_core.proofs.ForCallers.{pid_same}
use Rattle.st_pair.specs.Places.{event_at}
use Rattle.st_order.specs.declared.item.Item.{Item}
use Rattle.st_order.specs.declared.item.Item.TheVariants as item
use Rattle.st_order.specs.Items.{is_hidden, items_at, items_from, items_among, items}
use Rattle.st_order.specs.Order.{IsOrder}
use Rattle.st_order.proofs.ForCallers.{among_all, members, Among}
use Rattle.st_plan.proofs.EarlierMoves.{IsAt}
use Rattle.st_plan.proofs.OrderedMoves.{IsWhole}

abbrev IsIn : List Item → Item → Type 0
IsIn xs z = Among z xs

in_front : (xs ys : List Item) (z : Item) → IsIn xs z → IsIn (xs ++ ys) z
in_front [] ys z m = absurd m
in_front (x ∷ xs) ys z (inl same) = inl same
in_front (x ∷ xs) ys z (inr m) = inr (in_front xs ys z m)

behind : (xs ys : List Item) (z : Item) → IsIn ys z → IsIn (xs ++ ys) z
behind [] ys z m = m
behind (x ∷ xs) ys z m = inr (behind xs ys z m)

among_at : (all : List Stream) (p : Pid) (k : ℕ) (e : Event)
    → IsIn (items_at all p k e) (item.Reported p k)
among_at all p k e =
    let reported = item.Reported p k ∷ [] in
    elim (is_hidden all e) as (λ b. IsIn (cond b (item.Hidden p k ∷ reported) reported)
    (item.Reported p k)) [
      | true ↦ inr (inl refl)
      | false ↦ inl refl
    ]

hidden_at : (all : List Stream) (p : Pid) (k : ℕ) (e : Event) → is_hidden all e ≡ true
    → IsIn (items_at all p k e) (item.Hidden p k)
hidden_at all p k e h =
    rw h (inl refl)

among_from : (all : List Stream) (p : Pid) (k : ℕ) (es : List Event) (j : ℕ) (e : Event)
    (z : ℕ → Item)
    → ((n : ℕ) → n ≡ k + j → IsIn (items_at all p n e) (z n)) → slice_get es j ≡ Some e
    → IsIn (items_from all p k es) (z (k + j))
among_from all p k [] j e z one at = absurd (none-some e at)
among_from all p k (d ∷ es) zero e z one at =
    let here : k ≡ k + 0 = omega arith in
    let same : d ≡ e = same_Some d e at in
    in_front (items_at all p k d) (items_from all p (k + 1) es) (z (k + 0))
    (subst (λ n. IsIn (items_at all p k d) (z n)) here
    (subst (λ c. IsIn (items_at all p k c) (z k)) (sym same) (one k here)))
among_from all p k (d ∷ es) (suc j) e z one at =
    let next : k + 1 + j ≡ k + suc j = omega arith in
    let rest = among_from all p (k + 1) es j e z (λ n h. one n (h ∙ next)) at in
    behind (items_at all p k d) (items_from all p (k + 1) es) (z (k + suc j))
    (subst (λ n. IsIn (items_from all p (k + 1) es) (z n)) next rest)

in_all : (all streams : List Stream) (p : Pid) (i : ℕ) (e : Event) (z : ℕ → Item)
    → ((n : ℕ) → n ≡ i → IsIn (items_at all p n e) (z n)) → event_at streams p i ≡ Some e
    → IsIn (items_among all streams) (z i)
in_all all [] p i e z one at = absurd (none-some e at)
in_all all (s ∷ streams) p i e z one at =
    elim (pid_eq s.pid p) as (λ b. pid_eq s.pid p ≡ b → slice_get
    (elim (cond b (Some s) (stream_of streams p)) [ None ↦ [] | Some y ↦ y.events ]) i ≡ Some e
    → IsIn (items_among all (s ∷ streams)) (z i)) [
      | true ↦ λ same at.
          let number : 0 + i ≡ i = omega arith in
          let who = pid_same s.pid p same in
          in_front (items_from all s.pid 0 s.events) (items_among all streams) (z i)
          (subst (λ q. IsIn (items_from all q 0 s.events) (z i)) (sym who)
          (subst (λ n. IsIn (items_from all p 0 s.events) (z n)) number
          (among_from all p 0 s.events i e z (λ n h. one n (h ∙ number)) at)))
      | false ↦ λ other at. behind (items_from all s.pid 0 s.events) (items_among all streams) (z i)
          (in_all all streams p i e z one at)
    ] refl at

items_whole : (streams : List Stream) (z : Item) (d : Event) → IsAt streams z d
    → IsIn (items streams) z
items_whole streams (item.Reported p i) d at = in_all streams streams p i d (λ n. item.Reported p n)
    (λ n h. among_at streams p n d) at
items_whole streams (item.Hidden p i) d at = in_all streams streams p i d (λ n. item.Hidden p n)
    (λ n h. hidden_at streams p n d at.1) at.0

-- IN AN ORDER

place_in : (xs : List Item) (z : Item) → IsIn xs z → (n : ℕ) × (slice_get xs n ≡ Some z)
place_in [] z m = absurd m
place_in (x ∷ xs) z (inl same) = (0, ap (λ (y : Item). Some y) (sym same))
place_in (x ∷ xs) z (inr m) = let rest = place_in xs z m in (suc rest.0, rest.1)

-- an order holds all items
pub order_whole : (streams : List Stream) (xs : List Item) → IsOrder streams xs → IsWhole streams xs
order_whole streams xs order z d at =
    let back = members xs (items streams) (IsPermutation-sym (items streams) xs order.same) in
    place_in xs z (among_all (IsIn xs) (items streams) z back (items_whole streams z d at))
