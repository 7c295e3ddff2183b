-- Worked cases: the definitions computed. Nothing cites this file; it shows that the definitions
-- say what is meant.
use Rattle.std.specs.Prelude.{◌≡◌, ◌==◌, Bool, true, false, List, [], ◌∷◌, ◌||◌, None, filter, refl}
use Rattle.st_core.specs.Run.{Stream}
use Rattle.st_order.specs.declared.item.Item.{Item}
use Rattle.st_order.specs.declared.item.Item.TheVariants as item
use Rattle.st_order.specs.Items.{height}
use Rattle.st_order.specs.Order.{key, KeysRise, order}
use Rattle.st_order.specs.Labels.{label_of, IsByLabel}
use Rattle.st_order.specs.Turn.{in_turn, is_event_of}
use Rattle.st_core.proofs.Samples.{a, b, c, sent, got, printed, of, hidden_sends}

abbrev hidden_order : List Item
hidden_order =
    item.Reported a 0
    ∷ item.Hidden b 0
    ∷ item.Reported b 0
    ∷ item.Reported b 1
    ∷ item.Hidden a 1
    ∷ item.Reported a 1
    ∷ []

hidden_is : order hidden_sends ≡ hidden_order
hidden_is = refl

hidden_rises : KeysRise hidden_sends hidden_order
hidden_rises = (
  (refl, (refl, (refl, (refl, (refl, tt))))),
  (
    (refl, (refl, (refl, (refl, tt)))),
    ((refl, (refl, (refl, tt))), ((refl, (refl, tt)), ((refl, tt), (tt, tt)))),
  ),
)

hidden_heights : height hidden_sends a 0
    ∷ height hidden_sends b 0
    ∷ height hidden_sends b 1
    ∷ height hidden_sends a 1
    ∷ [] ≡ 1 ∷ 2 ∷ 3 ∷ 4 ∷ []
hidden_heights = refl

-- each process's events are in turn
hidden_turns : filter (is_event_of a) hidden_order ≡ in_turn a 0 2
hidden_turns = refl

-- by label the items are one list, since they have one label
six_times : (x : Bool) → (x || false) ≡ (x || (x || (x || (x || (x || (x || false))))))
six_times true = refl
six_times false = refl

hidden_by_label : IsByLabel hidden_sends hidden_order ((record { 0 = 17 }, hidden_order) ∷ [])
hidden_by_label = record {
  rises = (tt, tt);
  labels = λ label. six_times (17 == label.0);
  lists = (refl, tt);
}

-- a receive of a low count is at the height of its process
abbrev low_counts : List Stream
low_counts = of a [] ∷ of b (got 1 0 2 a b 0 ∷ got 1 0 1 c b 0 ∷ printed 1 1 2 b 0 ∷ []) ∷ of c []
    ∷ []

low_counts_are : order low_counts
    ≡ item.Hidden b 1 ∷ item.Hidden b 0 ∷ item.Reported b 2 ∷ item.Reported b 0 ∷ item.Reported b 1
    ∷ []
low_counts_are = refl

-- b's print doesn't count more than the receives before it, and the order puts it in front of them
low_counts_out_of_turn : filter (is_event_of b) (order low_counts)
    ≡ item.Reported b 2 ∷ item.Reported b 0 ∷ item.Reported b 1 ∷ []
low_counts_out_of_turn = refl

-- a reported send comes before its receive, and there is no hidden send
abbrev passed : List Stream
passed = of a (sent 17 0 1 a b 0 ∷ []) ∷ of b (got 17 0 1 a b 0 ∷ []) ∷ []

passed_is : order passed ≡ item.Reported a 0 ∷ item.Reported b 0 ∷ []
passed_is = refl

-- if a process repeats a receive, the two hidden sends have the same key, so there is no order
abbrev repeats : List Stream
repeats = of a [] ∷ of b (got 17 0 1 a b 0 ∷ got 17 0 1 a b 0 ∷ []) ∷ []

one_key : key repeats (item.Hidden b 0) ≡ key repeats (item.Hidden b 1)
one_key = refl

-- an item past the end of a stream, or of a process that isn't listed, has no label
past_the_end : label_of passed (item.Reported a 1) ∷ label_of passed (item.Hidden c 0) ∷ []
    ≡ None ∷ None ∷ []
past_the_end = refl
