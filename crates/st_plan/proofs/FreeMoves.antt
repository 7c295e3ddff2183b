-- No reason holds of a move of the order of settled streams, since a reason that holds nowhere
-- holds at no split of the order, and each move splits it.
use Rattle.std.proofs.Common.{◌≡◌, ℕ, ◌==◌, Bool, true, false, not, List, [], ◌∷◌, ◌++◌, reverse}
use Rattle.std.proofs.Common.{refl, sym, ◌∙◌, ap, subst, append_assoc}
use Rattle.std.proofs.lemmas.Bool.{eqb-true, not-false}
use Rattle.std.proofs.lemmas.List.{reverse-append}
use Rattle.st_core.specs.Run.{Stream}
use Rattle.st_order.specs.declared.item.Item.{Item}
use Rattle.st_order.specs.declared.item.Item.TheVariants as item
use Rattle.st_order.specs.Order.{IsOrder}
use Rattle.st_plan.specs.Moves.{Move, moves}
use Rattle.st_order.specs.Items.{item_place}
use Rattle.st_plan.specs.Reasons.{uncaused, HoldsOfMoveAt}
use Rattle.st_plan.specs.Plain.{out_of_turn, event_count, HoldsNowhere, IsSettled}

-- ALONG THE MOVES

-- the fact holds of each of these moves, which come after the earlier ones
abbrev pub AllAlong : (List Move → Move → Type 0) → List Move → List Move → Type 0
AllAlong P earlier [] = Unit {0}
AllAlong P earlier (m ∷ ms) = P earlier m × AllAlong P (m ∷ earlier) ms

pub reverse_more : {A : Type 0} (m : A) (earlier later : List A)
    → reverse (m ∷ earlier) ++ later ≡ reverse earlier ++ m ∷ later
reverse_more m earlier later = ap (λ ms. ms ++ later) (reverse-append (m ∷ []) earlier)
    ∙ append_assoc (reverse earlier) (m ∷ []) later

-- a fact that holds along all moves holds along the moves left
pub along_from : (P : List Move → Move → Type 0) (earlier ms : List Move)
    → AllAlong P [] (reverse earlier ++ ms) → AllAlong P earlier ms
along_from P [] ms all = all
along_from P (m ∷ earlier) ms all =
    (along_from P earlier (m ∷ ms) (subst (AllAlong P []) (reverse_more m earlier ms) all)).1

-- a fact that holds along all moves holds of each move
pub along_at : (P : List Move → Move → Type 0) (ms earlier later : List Move) (m : Move)
    → AllAlong P [] ms → ms ≡ reverse earlier ++ m ∷ later → P earlier m
along_at P ms earlier later m all split =
    (along_from P earlier (m ∷ later) (subst (AllAlong P []) split all)).0

-- WHERE A TEST HOLDS NOWHERE

module _ (streams : List Stream) (xs : List Item) (order : IsOrder streams xs)
    (test : List Move → Move → Bool) where
  -- a move of which the test holds is at its item's place
  pub holds_here : (earlier later : List Move) (m : Move)
      → moves streams xs ≡ reverse earlier ++ m ∷ later → test earlier m ≡ true
      → HoldsOfMoveAt test streams (item_place m.item).0 (item_place m.item).1
  holds_here earlier later m split holds = record {
    order = xs;
    earlier = earlier;
    move = m;
    later = later;
    is_order = order;
    split = split;
    place = refl;
    holds = holds;
  }

  module _ (nowhere : HoldsNowhere test streams) where
    pub holds_not : (earlier later : List Move) (m : Move)
        → moves streams xs ≡ reverse earlier ++ m ∷ later → test earlier m ≡ false
    holds_not earlier later m split =
        elim (test earlier m) as (λ b. test earlier m ≡ b → b ≡ false) [
          | false ↦ λ no. refl
          | true ↦ λ yes. absurd (nowhere (item_place m.item).0 (item_place m.item).1
              (holds_here earlier later m split yes))
        ] refl

    pub false_along : (earlier ms : List Move) → moves streams xs ≡ reverse earlier ++ ms
        → AllAlong (λ before m. test before m ≡ false) earlier ms
    false_along earlier [] split = tt
    false_along earlier (m ∷ ms) split = (
      holds_not earlier ms m split,
      false_along (m ∷ earlier) ms (split ∙ sym (reverse_more m earlier ms)),
    )

-- IN TURN

-- a reported item comes right after the events of its process before it
abbrev pub IsInTurn : List Move → Item → Type 0
IsInTurn earlier (item.Reported p i) = event_count p earlier ≡ i
IsInTurn earlier (item.Hidden p i) = Unit {0}

abbrev late_by : List Move → Item → Bool
late_by earlier (item.Reported p i) = not (event_count p earlier == i)
late_by earlier (item.Hidden p i) = false

turn_by : (earlier : List Move) (x : Item) → late_by earlier x ≡ false → IsInTurn earlier x
turn_by earlier (item.Reported p i) h =
    eqb-true (event_count p earlier) i (not-false (event_count p earlier == i) h)
turn_by earlier (item.Hidden p i) h = tt

-- SETTLED STREAMS

-- no reason holds of the move
pub record IsFree (earlier : List Move) (m : Move) : Type 0 where
  pub caused : uncaused earlier m ≡ false
  pub turn : IsInTurn earlier m.item

free_from : (earlier ms : List Move) → AllAlong (λ before m. uncaused before m ≡ false) earlier ms
    → AllAlong (λ before m. out_of_turn before m ≡ false) earlier ms → AllAlong IsFree earlier ms
free_from earlier [] caused turn = tt
free_from earlier (m ∷ ms) caused turn = (
  record { caused = caused.0; turn = turn_by earlier m.item turn.0 },
  free_from (m ∷ earlier) ms caused.1 turn.1,
)

pub settled_free : (top : ℕ) (streams : List Stream) → IsSettled top streams → (xs : List Item)
    → IsOrder streams xs → AllAlong IsFree [] (moves streams xs)
settled_free top streams settled xs order = free_from [] (moves streams xs)
    (false_along streams xs order uncaused settled.caused [] (moves streams xs) refl)
    (false_along streams xs order out_of_turn settled.in_turn [] (moves streams xs) refl)
