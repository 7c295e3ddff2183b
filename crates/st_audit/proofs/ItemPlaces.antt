-- An item of the order has an event at its place, and its move is between the moves of the items
-- before it and after it.
use Rattle.std.proofs.Common.{◌≡◌, ℕ, zero, suc, ◌<◌, List, [], ◌∷◌, ◌++◌, reverse, take, drop}
use Rattle.std.proofs.Common.{Some, IsSome}
use Rattle.std.proofs.Common.{slice_get, length, get_or, refl, sym, ◌∙◌, ap, subst}
use Rattle.std.proofs.lemmas.List.{reverse-reverse}
use Rattle.std.proofs.lemmas.Option.{same_Some, none-some, slice_get-get_or}
use Rattle.st_core.specs.declared.types.Pid.{Pid}
use Rattle.st_core.specs.declared.types.Event.{Event}
use Rattle.st_core.specs.Pid.{IsRising}
use Rattle.st_core.specs.Run.{Stream, pids_of}
use Rattle.st_core.proofs.ForCallers.{all_at}
use Rattle.st_pair.specs.Places.{event_at}
use Rattle.st_order.specs.declared.item.Item.{Item}
use Rattle.st_order.specs.declared.item.Item.TheVariants as item
use Rattle.st_order.specs.Items.{event_of, item_place}
use Rattle.st_order.specs.Order.{IsOrder}
use Rattle.st_plan.specs.Moves.{move_by, moves, earlier_of}
use Rattle.st_plan.proofs.ForCallers.{moves_append, one_move, order_there, IsAt, IsThere}

-- an item has an event
pub event_there : (streams : List Stream) (x : Item) → IsThere streams x
    → (e : Event) × (event_of streams x ≡ Some e)
event_there streams (item.Reported p i) there = there
event_there streams (item.Hidden p i) there = (there.0, there.1.0)

place_some : (streams : List Stream) (x : Item) (e : Event) → IsAt streams x e
    → IsSome (event_at streams (item_place x).0 (item_place x).1)
place_some streams (item.Reported p i) e at = rw at refl
place_some streams (item.Hidden p i) e at = rw at.0 refl

-- at an item's place there is an event
pub place_there : (streams : List Stream) (xs : List Item) (n : ℕ) (d : Item) (at : Pid × ℕ)
    → IsRising (pids_of streams) → IsOrder streams xs → n < length xs
    → at ≡ item_place (get_or xs n d)
    → IsSome (event_at streams at.0 at.1)
place_there streams xs n d at rising order within is =
    let x = get_or xs n d in
    let there = all_at (IsThere streams) xs n x (order_there streams rising xs order)
    (slice_get-get_or xs n d within) in
    subst (λ (p : Pid × ℕ). IsSome (event_at streams p.0 p.1)) (sym is)
    (place_some streams x there.0 there.1)

pub cut : {A : Type 0} (xs : List A) (n : ℕ) (x : A) → slice_get xs n ≡ Some x
    → xs ≡ take n xs ++ x ∷ drop (suc n) xs
cut [] n x at = absurd (none-some x at)
cut (y ∷ xs) zero x at = ap (λ z. z ∷ xs) (same_Some y x at)
cut (y ∷ xs) (suc n) x at = ap (λ zs. y ∷ zs) (cut xs n x at)

-- the moves of an order are those before an item's, the item's, and those after it
pub split_at : (streams : List Stream) (xs : List Item) (n : ℕ) (x : Item) (e : Event)
    → slice_get xs n ≡ Some x
    → event_of streams x ≡ Some e
    → moves streams xs ≡ reverse (earlier_of streams (take n xs)) ++ move_by x e
    ∷ moves streams (drop (suc n) xs)
split_at streams xs n x e found there =
    let before = moves streams (take n xs) in
    let later = moves streams (drop (suc n) xs) in
    ap (moves streams) (cut xs n x found) ∙ moves_append streams (take n xs) (x ∷ drop (suc n) xs)
    ∙ ap (λ ms. before ++ ms) (one_move streams x e (drop (suc n) xs) there)
    ∙ ap (λ ms. ms ++ move_by x e ∷ later) (sym (reverse-reverse before))
