-- The streams that the auditor explains: pairing accepts them, and the auditor has no reason of
-- its own against any item of their order.
use Rattle.std.specs.Prelude.{◌≡◌, ℕ, ◌+◌, ◌≤◌, ◌==◌, Bool, false, not, List, [], ◌∷◌, ◌++◌, None}
use Rattle.std.specs.Prelude.{Some, if◌then◌else◌}
use Rattle.st_core.specs.declared.types.Pid.{Pid}
use Rattle.st_core.specs.declared.types.Event.{Event}
use Rattle.st_core.specs.Pid.{pid_eq}
use Rattle.st_core.specs.Run.{Stream}
use Rattle.st_pair.specs.Pairing.{refusal}
use Rattle.st_pair.specs.Places.{event_at}
use Rattle.st_order.specs.declared.item.Item.TheVariants as item
use Rattle.st_plan.specs.Marks.{Marks}
use Rattle.st_plan.specs.Moves.{Move}
use Rattle.st_plan.specs.Reasons.{too_wide, uncaused, HoldsOfMoveAt}

-- what p tells of a move: the event, if it is p's and reported, and told
abbrev pub told_of_move : Marks → Pid → Move → List Event
told_of_move marks p m = elim m.item [
  | item.Reported q i ↦ if pid_eq q p then (if marks q i then m.event ∷ [] else []) else []
  | item.Hidden q i ↦ []
]

-- all that p tells of these moves
abbrev pub told_of_moves : Marks → Pid → List Move → List Event
told_of_moves marks p [] = []
told_of_moves marks p (m ∷ ms) = told_of_move marks p m ++ told_of_moves marks p ms

-- how many of these moves are events of p
abbrev pub event_count : Pid → List Move → ℕ
event_count p [] = 0
event_count p (m ∷ earlier) = event_count p earlier + (elim m.item [
  | item.Reported q i ↦ if pid_eq q p then 1 else 0
  | item.Hidden q i ↦ 0
])

-- the move is a reported item that doesn't come right after the earlier events of its process
abbrev pub out_of_turn : List Move → Move → Bool
out_of_turn earlier m = elim m.item [
  | item.Reported p i ↦ not (event_count p earlier == i)
  | item.Hidden p i ↦ false
]

-- the test holds of no move of the order
abbrev pub HoldsNowhere : (List Move → Move → Bool) → List Stream → Type 0
HoldsNowhere test streams = (p : Pid) (i : ℕ) → ¬ HoldsOfMoveAt test streams p i

-- Pairing accepts the streams, the order lists each process's reported items by rising index,
-- nothing is uncaused, and a clock can have each count.
pub record IsSettled (top : ℕ) (streams : List Stream) : Type 0 where
  pub accepted : refusal streams ≡ None
  pub in_turn : HoldsNowhere out_of_turn streams
  pub caused : HoldsNowhere uncaused streams
  pub within : (p : Pid) (i : ℕ) (e : Event) → event_at streams p i ≡ Some e → e.serial.this ≤ top

-- The streams are settled, and nothing is too wide.
pub record IsPlain (top : ℕ) (streams : List Stream) : Type 0 where
  pub settled : IsSettled top streams
  pub narrow : HoldsNowhere too_wide streams
