-- The construction as a function of the streams: for each item of the order its acts, or why the
-- construction stops there; the acts up to that place; and the finding (own profile).
use Rattle.std.specs.Prelude.{◌≡◌, ℕ, Bool, true, false, List, [], ◌∷◌, ◌++◌, Option}
use Rattle.std.specs.Prelude.{Some, None, if◌then◌else◌, option_map, option_and_then, unwrap_or}
use Rattle.std.specs.Option.{option_map_or}
use Rattle.std.specs.List.{last_or}
use Rattle.st_core.specs.declared.types.Pid.{Pid}
use Rattle.st_core.specs.declared.types.Event.{Event}
use Rattle.st_core.specs.declared.types.Act.{Act}
use Rattle.st_core.specs.Event.{event_eq}
use Rattle.st_core.specs.State.{State, process, zero_state}
use Rattle.st_core.specs.Step.{Outcome, step}
use Rattle.st_core.specs.Run.{Stream, pids_of, run_from}
use Rattle.st_core.specs.Verdict as verdicts
use Rattle.st_check.specs.Answers.{verdict_of}
use Rattle.st_pair.specs.declared.answer.PairFault.{PairFault}
use Rattle.st_pair.specs.Pairing.{refusal}
use Rattle.st_order.specs.declared.item.Item.{Item}
use Rattle.st_order.specs.declared.item.Item.TheVariants as item
use Rattle.st_order.specs.Order.{order}
use Rattle.st_plan.specs.Marks.{all_told, Marks}
use Rattle.st_plan.specs.Moves.{Move, moves}
use Rattle.st_order.specs.Items.{item_place}
use Rattle.st_plan.specs.Reasons.{too_wide, uncaused}
use Rattle.st_plan.specs.Plain.{out_of_turn}
use Rattle.st_plan.specs.Build.{acts_of, state_after, tracers_after}
use Rattle.st_audit.specs.declared.finding.Reason.{Reason}
use Rattle.st_audit.specs.declared.finding.Reason.TheVariants as reason
use Rattle.st_audit.specs.declared.finding.Finding.{Finding}
use Rattle.st_audit.specs.declared.finding.Finding.TheVariants as finding
use Rattle.st_audit.specs.Findings.{unfit_by, IsNo}

-- ONE ITEM

-- the acts up to the first that has no step, which is included
abbrev pub tried_acts : ℕ → State → List Act → List Act
tried_acts top s [] = []
tried_acts top s (a ∷ rest) =
    a ∷ (elim (step top s a) [ None ↦ [] | Some o ↦ tried_acts top o.after rest ])

-- what the last outcome reports; r if there is no outcome
abbrev pub last_report : Option Event → List Outcome → Option Event
last_report r [] = r
last_report r (o ∷ os) = last_report o.report os

-- The outcome of an item. Through: its acts, with their outcomes. Stopped: the acts that were
-- tried, which don't go the way of the streams. Refused: one of the auditor's own reasons
pub data Turn : Type 0 where
  Through : List Act → List Outcome → Turn
  Stopped : List Act → Turn
  Refused : Reason → Turn

-- acts go through if each has a step
abbrev pub turn_by : ℕ → State → List Act → Option (List Outcome) → Turn
turn_by top s acts None = Stopped (tried_acts top s acts)
turn_by top s acts (Some os) = Through acts os

-- the outcome of a move: it stops if it has no acts, is refused if it is uncaused or else if it is
-- too wide, and else tries its acts
abbrev pub attempt : ℕ → State → Bool → Bool → Option (List Act) → Turn
attempt top s is_uncaused is_too_wide None = Stopped []
attempt top s true is_too_wide (Some acts) = Refused reason.Uncaused
attempt top s false true (Some acts) = Refused reason.TooWide
attempt top s false false (Some acts) = turn_by top s acts (run_from top s acts)

-- the acts of a move from this state; none if its process isn't there, or if the message isn't
-- there that it receives
abbrev pub acts_from : List Stream → Marks → State → Move → Option (List Act)
acts_from streams marks s m = option_and_then (λ r. acts_of streams marks r m) (process s m.who)

-- the last act reports the move's event; a hidden send has nothing to report
abbrev pub is_shown : Move → List Outcome → Bool
is_shown m os = elim m.item [
  | item.Reported p i ↦ option_map_or (λ e. event_eq e m.event) (last_report None os) false
  | item.Hidden p i ↦ true
]

-- a move that goes through without showing its event is stopped
abbrev pub compared_turn : Move → Turn → Turn
compared_turn m (Through acts os) = if is_shown m os then Through acts os else Stopped acts
compared_turn m (Stopped acts) = Stopped acts
compared_turn m (Refused r) = Refused r

-- the outcome of a move from state s after the earlier moves, if its event is told
abbrev pub turn : ℕ → List Stream → Marks → State → List Move → Move → Turn
turn top streams marks s earlier m = if out_of_turn earlier m then Stopped [] else
    compared_turn m (attempt top s (uncaused earlier m) (too_wide earlier m)
    (acts_from streams marks s m))

-- ALL ITEMS

-- How the construction ends. Judged: acts for the checker, and the place of the last item that was
-- tried. Unfounded: a reason of the auditor's own, and the place of the item of which it holds
pub data End : Type 0 where
  Judged : List Act → Option (Pid × ℕ) → End
  Unfounded : Pid × ℕ → Reason → End

-- The end of the construction, if it is in state s after the earlier moves and acts, and these
-- moves are left. If no move stops it, it ends at the place `end`
abbrev pub course : ℕ → List Stream → Option (Pid × ℕ) → State → List Move → List Act → List Move
    → End
course top streams end s earlier acts [] = Judged acts end
course top streams end s earlier acts (m ∷ ms) = elim (turn top streams all_told s earlier m) [
  | Through more os ↦ course top streams end (state_after s os) (m ∷ earlier) (acts ++ more) ms
  | Stopped more ↦ Judged (acts ++ more) (Some (item_place m.item))
  | Refused r ↦ Unfounded (item_place m.item) r
]

-- the state after acts that run
abbrev pub led_to : ℕ → State → List Act → State
led_to top s acts = state_after s (unwrap_or (run_from top s acts) [])

-- the first acts: a tracer for each node, which always runs; none if there is nothing to show
abbrev pub first_acts : List Stream → List Item → List Act
first_acts streams [] = []
first_acts streams (x ∷ xs) = tracers_after None (pids_of streams)

-- the place of the last item, if there is one
abbrev pub last_place : List Item → Option (Pid × ℕ)
last_place xs = option_map item_place (last_or None xs)

-- how the construction of these items ends, from zero clocks
abbrev pub end_of : ℕ → List Stream → List Item → End
end_of top streams xs =
    let first = first_acts streams xs in
    let begin = led_to top (zero_state (pids_of streams)) first in
    course top streams (last_place xs) begin [] first (moves streams xs)

-- THE FINDING

-- the finding at an end: acts are a certificate if the checker accepts them, and weren't replayed
-- if it doesn't; a reason of the auditor's own is the finding
abbrev pub IsFoundAt : ℕ → List Stream → End → Finding → Type 0
IsFoundAt top streams (Judged acts end) (finding.Fits found pairs) =
    (found ≡ acts) × verdicts.IsVerdict top streams acts (verdicts.Yes pairs)
IsFoundAt top streams (Judged acts end) (finding.Unfit p i (reason.NotReplayed found v)) =
    (found ≡ acts) × (end ≡ Some (p, i)) × verdicts.IsVerdict top streams acts (verdict_of v)
    × IsNo (verdict_of v)
IsFoundAt top streams (Judged acts end) found = ⊥
IsFoundAt top streams (Unfounded at r) found = found ≡ finding.Unfit at.0 at.1 r

-- the finding is pairing's reason, if there is one, and else that at the construction's end
abbrev pub IsFoundBy : ℕ → List Stream → Option PairFault → Finding → Type 0
IsFoundBy top streams (Some f) found = unfit_by f ≡ Some found
IsFoundBy top streams None found = IsFoundAt top streams (end_of top streams (order streams)) found

-- the finding that the streams determine
abbrev pub IsAudit : ℕ → List Stream → Finding → Type 0
IsAudit top streams found = IsFoundBy top streams (refusal streams) found
