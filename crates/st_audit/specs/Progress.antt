-- The state that the construction keeps from item to item, the outcome of an item from that state,
-- and what it means that a call had this outcome. Only the crate's own parts cite it.
use Rattle.std.specs.Prelude.{◌≡◌, ℕ, ◌+◌, ◌-◌, ◌==◌, ◌&&◌, ◌||◌, nat_lt, Bool, true, false, not}
use Rattle.std.specs.Prelude.{List, [], ◌∷◌, ◌++◌, ◌<◌, ◌^◌, ◌≢◌, length, slice_get, Option, Some}
use Rattle.std.specs.Prelude.{None, if◌then◌else◌, Result, Ok, Err, option_map, IfSome}
use Rattle.st_check.specs.Progress.{IsPassedBy}
use Rattle.std.specs.Option.{option_eq, option_map_or}
use Rattle.st_core.specs.declared.types.Pid.{Pid}
use Rattle.st_core.specs.declared.types.Event.{Event}
use Rattle.st_core.specs.declared.types.Flags.{Flags}
use Rattle.st_core.specs.declared.types.Serial.{Serial}
use Rattle.st_core.specs.declared.types.Want.TheVariants as want
use Rattle.st_core.specs.declared.types.Act.{Act}
use Rattle.st_core.specs.declared.types.Act.TheVariants as act
use Rattle.st_core.specs.State.{LocalState, Process, State, process}
use Rattle.st_core.specs.Step.{Outcome}
use Rattle.st_core.specs.Run.{Stream, pids_of, run_from}
use Rattle.st_core.specs.Streams.{IsStreams}
use Rattle.st_core.specs.Event.{event_eq}
use Rattle.st_mail.specs.declared.outcome.Outcome.{Outcome as Told}
use Rattle.st_world.specs.World.{place_in}
use Rattle.st_pair.specs.Places.{is_stamp}
use Rattle.st_pair.specs.Links.{IsPairing, ProcessLinks}
use Rattle.st_order.specs.declared.item.Item.{Item}
use Rattle.st_order.specs.declared.item.Item.TheVariants as item
use Rattle.st_order.specs.Order.{IsOrder}
use Rattle.st_plan.specs.declared.plan.Start.{Start}
use Rattle.st_plan.specs.Marks.{Marks}
use Rattle.st_plan.specs.Moves.{Move, clock, is_taking, last, skips}
use Rattle.st_plan.specs.Reasons.{most_skipped, most_skipped_in_all, too_wide, uncaused}
use Rattle.st_plan.specs.Build.{ready, start_of, state_after}
use Rattle.st_plan.specs.Plain.{event_count, out_of_turn}
use Rattle.st_audit.specs.declared.construction.Construction.{Construction}
use Rattle.st_audit.specs.declared.construction.Halt.{Halt}
use Rattle.st_audit.specs.declared.construction.Halt.TheVariants as halt
use Rattle.st_audit.specs.declared.finding.Reason.TheVariants as reason
use Rattle.st_audit.specs.Construction.{acts_from, attempt, last_report, turn_by}
use Rattle.st_audit.specs.Construction.{Turn, Through, Stopped, Refused}

-- WHAT IT GOES BY

-- streams that pairing accepts, with their pairing and their items in order
pub record ArePrepared (streams : List Stream) (pairing : List ProcessLinks) (items : List Item) :
    Type 0 where
  pub are_streams : IsStreams streams
  pub paired : IsPairing streams pairing
  pub order : IsOrder streams items

-- WHAT IT KEEPS

-- p's clock and last count are those that the moves so far give it
pub record IsCounted (earlier : List Move) (p : Pid) (l : LocalState) : Type 0 where
  pub clocked : l.clock ≡ clock p earlier
  pub lasted : l.last ≡ last p earlier

-- each process in this state has the clock and the last count that the moves so far give it
abbrev pub AreAllCounted : List Move → State → Type 0
AreAllCounted earlier s = (p : Pid) (r : Process) → process s p ≡ Some r
    → IsCounted earlier p r.local

-- each process's count is the number of its events among these moves, as long as 64 bits hold it
abbrev pub AreTold : List Stream → List Move → List ℕ → Type 0
AreTold streams earlier counts = (k : ℕ) (p : Pid) → slice_get (pids_of streams) k ≡ Some p
    → event_count p earlier < 2 ^ 64 → slice_get counts k ≡ Some (event_count p earlier)

-- the construction is in the state to which these moves lead
pub record IsSoFar {top : ℕ} (streams : List Stream) (earlier : List Move)
    (c : Construction top) : Type 0 where
  pub counted : AreAllCounted earlier c.world
  pub missed : c.skipped ≡ skips earlier
  pub listed : length c.told.items ≡ length streams
  pub told : AreTold streams earlier c.told.items

-- the count of p is n
abbrev pub IsCountedAs : List Stream → List ℕ → Pid → ℕ → Type 0
IsCountedAs streams counts p n =
    (k : ℕ) → slice_get (pids_of streams) k ≡ Some p → slice_get counts k ≡ Some n

-- p's count goes from i to i + 1, as long as 64 bits hold that, and no other count changes
pub record TellsOne (streams : List Stream) (p : Pid) (i : ℕ) (old new : List ℕ) : Type 0 where
  pub place : ℕ
  pub is_place : slice_get (pids_of streams) place ≡ Some p
  pub was : slice_get old place ≡ Some i
  pub now : i + 1 < 2 ^ 64 → slice_get new place ≡ Some (i + 1)
  pub others : (k : ℕ) → k ≢ place → slice_get new k ≡ slice_get old k

-- if the acts are compared with the streams, they pass, and they lead to the world
abbrev pub IsMatched : {top : ℕ} → List Stream → Construction top → Type 0
IsMatched {top} streams c = IfSome c.comparison (IsPassedBy top streams c.acts c.world)

-- A SERIAL BEFORE ITS STAMP

-- how many counts are missing before a serial
abbrev pub missing_count : Start → Serial → ℕ
missing_count x s = s.this - 1 - x.clock

-- the serial's prev is below the clock, and isn't the last count
abbrev pub is_uncaused : Start → Serial → Bool
is_uncaused x s = not (s.prev == x.last) && nat_lt s.prev x.clock

-- the skipped counts and `more` together, or `more` alone, are too many
abbrev pub is_too_wide : ℕ → ℕ → Bool
is_too_wide skipped more = nat_lt most_skipped more || nat_lt most_skipped_in_all (more + skipped)

-- the test holds of p's token, clock and last count, if p is there
abbrev pub test_at : (Start → Bool) → State → Pid → Bool
test_at test s p = option_map_or (λ r. test (start_of r.local)) (process s p) false

-- how many counts are missing before the event's own, if p stamps it
abbrev pub stamp_skip : State → Pid → Event → ℕ
stamp_skip s p e = option_map_or (λ r. missing_count (start_of r.local) e.serial) (process s p) 0

-- how many counts are missing before the move's own
abbrev pub move_skip : State → Move → ℕ
move_skip s m = if is_taking m then 0 else stamp_skip s m.who m.event

-- p's clock is below the event's count
abbrev pub is_below : State → Pid → Event → Bool
is_below s p e = option_map_or (λ r. nat_lt r.local.clock e.serial.this) (process s p) true

-- THE OUTCOME OF AN ITEM, BY THE STATE

-- the outcome of acts against which the auditor has no reason
abbrev pub acts_turn : ℕ → State → List Act → Turn
acts_turn top s acts = turn_by top s acts (run_from top s acts)

-- the outcome if p stamps the event's serial by act a
abbrev pub stamp_turn : {top : ℕ} → Construction top → Pid → Event → Flags → Act → Turn
stamp_turn {top} c p e f a =
    attempt top c.world (test_at (λ x. is_uncaused x e.serial) c.world p)
    (test_at (λ x. is_too_wide c.skipped (missing_count x e.serial)) c.world p)
    (option_map (λ r. ready p (start_of r.local) e.label e.serial f ++ a ∷ []) (process c.world p))

-- the outcome if p takes the event's message
abbrev pub take_turn : {top : ℕ} → Construction top → Pid → Event → Turn
take_turn {top} c p e = attempt top c.world false false
    (option_map (λ k. act.Receive p (want.Place k) ∷ [])
    (place_in c.world p e.from e.serial.this))

-- the outcome of a move, by the state of its process
abbrev pub move_turn : {top : ℕ} → List Stream → Marks → Construction top → Move → Turn
move_turn {top} streams marks c m = attempt top c.world
    (not (is_taking m) && test_at (λ x. is_uncaused x m.event.serial) c.world m.who)
    (not (is_taking m) &&
    test_at (λ x. is_too_wide c.skipped (missing_count x m.event.serial)) c.world m.who)
    (acts_from streams marks c.world m)

-- the event, if it is told
abbrev pub if_told : Bool → Event → Option Event
if_told b e = if b then Some e else None

-- the move is a stamp that isn't told, although the clock isn't below its count
abbrev pub is_high : Marks → State → Move → Bool
is_high marks s m = elim m.item [
  | item.Reported p i ↦ not (marks p i) && (is_stamp m.event && not (is_below s p m.event))
  | item.Hidden p i ↦ false
]

-- the last act reports the move's event exactly if it is told; a hidden send has nothing to report
abbrev pub is_marked : Marks → Move → List Outcome → Bool
is_marked marks m os = elim m.item [
  | item.Reported p i ↦ option_eq event_eq (last_report None os) (if_told (marks p i) m.event)
  | item.Hidden p i ↦ true
]

-- a move that goes through without reporting as the marks say is stopped
abbrev pub marked_turn : Marks → Move → Turn → Turn
marked_turn marks m (Through acts os) =
    if is_marked marks m os then Through acts os else Stopped acts
marked_turn marks m (Stopped acts) = Stopped acts
marked_turn marks m (Refused r) = Refused r

-- the outcome of a reported event, if n events of its process came before
abbrev pub report_turn : {top : ℕ} → List Stream → Marks → Construction top → ℕ → Move → Turn
report_turn streams marks c n m =
    if elim m.item [ item.Reported p i ↦ not (n == i) | item.Hidden p i ↦ false ] then Stopped []
    else if is_high marks c.world m then Stopped []
    else marked_turn marks m (move_turn streams marks c m)

-- the outcome of a move after the earlier ones, whose acts report its event exactly if it is told
abbrev pub item_turn : {top : ℕ} → List Stream → Marks → Construction top → List Move → Move → Turn
item_turn {top} streams marks c earlier m =
    if out_of_turn earlier m then Stopped [] else if is_high marks c.world m then Stopped []
    else marked_turn marks m (attempt top c.world (uncaused earlier m) (too_wide earlier m)
    (acts_from streams marks c.world m))

-- WHAT A CALL DID

-- the turn's acts went through, `says` holds of the result and their outcomes, and the
-- construction has the acts and the world after them
pub record WentThrough {top : ℕ} {T : Type 0} (says : T → List Outcome → Type 0) (t : Turn)
    (old : Construction top) (x : T) (new : Construction top) : Type 0 where
  pub acts : List Act
  pub outcomes : List Outcome
  pub through : t ≡ Through acts outcomes
  pub said : says x outcomes
  pub after : new.world ≡ state_after old.world outcomes
  pub put : new.acts ≡ old.acts ++ acts

-- the turn stopped, and the acts that were tried were added to the construction
pub record WasStopped {top : ℕ} (t : Turn) (old new : Construction top) : Type 0 where
  pub acts : List Act
  pub stopped : t ≡ Stopped acts
  pub put : new.acts ≡ old.acts ++ acts

-- the turn tries an act, so memory may run out
abbrev pub TriesAct : Turn → Type 0
TriesAct (Through (a ∷ acts) os) = Unit {0}
TriesAct (Stopped (a ∷ acts)) = Unit {0}
TriesAct t = ⊥

-- a call had the outcome of the turn, or memory ran out while it tried the turn's acts
abbrev pub Meets : {top : ℕ} {T : Type 0} → (T → List Outcome → Type 0) → Turn
    → Construction top → Result T Halt → Construction top → Type 0
Meets says t old (Ok x) new = WentThrough says t old x new
Meets says t old (Err halt.Memory) new = TriesAct t
Meets says t old (Err halt.Uncaused) new = t ≡ Refused reason.Uncaused
Meets says t old (Err halt.TooWide) new = t ≡ Refused reason.TooWide
Meets says t old (Err halt.Stopped) new = WasStopped t old new

-- the last outcome has this report
abbrev pub TellsLast : Told → List Outcome → Type 0
TellsLast told os = last_report None os ≡ told.report

-- says nothing of the outcomes
abbrev pub SaysNothing : {T : Type 0} → T → List Outcome → Type 0
SaysNothing x os = Unit {0}
