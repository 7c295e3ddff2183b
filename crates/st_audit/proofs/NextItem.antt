-- An item's acts lead from the counts after the moves before it to the counts after its own move:
-- its process gets the move's counts, and its skip is added.
use Rattle.std.proofs.Common.{◌≡◌, ℕ, ◌+◌, ◌-◌, ◌<◌, ◌==◌, ◌&&◌, max, nat_lt, Bool, true, false}
use Rattle.std.proofs.Common.{not, cond, List, [], ◌∷◌, ◌++◌, length, take, Option, Some, None}
use Rattle.std.proofs.Common.{option_and_then, slice_get, Result, Ok, Err, OnOk, refl, sym, ◌∙◌, ap}
use Rattle.std.proofs.Common.{subst, arith}
use Rattle.std.specs.Option.{option_map_or}
use Rattle.std.proofs.lemmas.Bool.{ltb-true}
use Rattle.std.proofs.lemmas.Option.{same_Some, none-some}
use Rattle.st_core.specs.declared.types.Pid.{Pid}
use Rattle.st_core.specs.declared.types.Event.{Event}
use Rattle.st_core.specs.declared.types.Flags.{Flags}
use Rattle.st_core.specs.declared.types.Kind.{Kind}
use Rattle.st_core.specs.declared.types.Kind.TheVariants as kind
use Rattle.st_core.specs.declared.types.Act.{Act}
use Rattle.st_core.specs.declared.types.Act.TheVariants as act
use Rattle.st_core.specs.declared.types.Want.TheVariants as want
use Rattle.st_core.specs.Pid.{pid_eq, IsRising}
use Rattle.st_core.specs.State.{LocalState, Process, State, process}
use Rattle.st_core.specs.Step.{Outcome}
use Rattle.st_core.specs.Run.{Stream, pids_of, run_from}
use Rattle.st_core.proofs.ForCallers.{not_false, pid_eq-swap, pid_same, run_parts}
use Rattle.st_pair.specs.Pairing.{refusal}
use Rattle.st_pair.specs.Places.{is_stamp}
use Rattle.st_pair.proofs.ForCallers.{paired, serial_rises}
use Rattle.st_order.specs.declared.item.Item.{Item}
use Rattle.st_order.specs.declared.item.Item.TheVariants as item
use Rattle.st_order.specs.Order.{IsOrder}
use Rattle.st_order.specs.Items.{event_of}
use Rattle.st_plan.specs.Marks.{Marks}
use Rattle.st_plan.specs.Moves.{Move, clock, is_taking, last, move_by, skip, skips, earlier_of}
use Rattle.st_plan.specs.Reasons.{too_wide, uncaused}
use Rattle.st_plan.specs.Plain.{out_of_turn}
use Rattle.st_plan.specs.Build.{acts_of, flags_of, ready, start_of, state_after}
use Rattle.st_plan.proofs.ForCallers.{earlier_more, hidden_clock, state_append}
use Rattle.st_audit.specs.declared.construction.Construction.{Construction}
use Rattle.st_audit.specs.declared.construction.Halt.{Halt}
use Rattle.st_audit.specs.Construction.{acts_from, last_report, Turn, Through, Stopped}
use Rattle.st_audit.specs.Progress.{if_told, is_below, is_high, is_marked, is_uncaused, item_turn}
use Rattle.st_audit.specs.Progress.{marked_turn, missing_count, move_skip, AreAllCounted, AreTold}
use Rattle.st_audit.specs.Progress.{IsCounted, IsSoFar, SaysNothing, Meets, WentThrough}
use Rattle.st_audit.proofs.Attempts.{attempt_runs, last_report-push, outcomes_in, Attempted}
use Rattle.st_audit.proofs.MoveActs.{hidden_acts, hidden_goes, last_step, print_acts, receive_acts}
use Rattle.st_audit.proofs.MoveActs.{send_acts, send_goes, LastStep}
use Rattle.st_audit.proofs.MoveOutcomes.{report_same}
use Rattle.st_audit.proofs.MovedCounts.{hidden_moves, reported_moves, taken_moves, HasMoved}
use Rattle.st_audit.proofs.MovedCounts.{IsStampOf, Stamps}

-- COUNTS

abbrev count_of : Move → ℕ
count_of m = cond (is_taking m) m.event.serial.this m.event.serial.prev

counted_next : (earlier : List Move) (m : Move) (old new : State) → AreAllCounted earlier old
    → HasMoved m.who m.event.serial (count_of m) old new → AreAllCounted (m ∷ earlier) new
counted_next earlier m old new counted moved x r h =
    let this = m.event.serial.this in
    elim (pid_eq m.who x) as (λ b. pid_eq m.who x ≡ b → IsCounted (m ∷ earlier) x r.local) [
      | true ↦ λ e.
          let who = pid_same m.who x e in
          let own : process new m.who ≡ Some r = ap (process new) who ∙ h in
          let z = moved.before r own in
          let was = counted m.who z (moved.is_before r own) in
          record {
            clocked = rw e (moved.clocked r own ∙ ap (λ c. max c this)
                (was.clocked ∙ ap (λ p. clock p earlier) who));
            lasted = rw e (moved.lasted r own);
          }
      | false ↦ λ e.
          let was = moved.others x r (pid_eq-swap x m.who ∙ e) h in
          let so = counted x was.before was.is_before in
          record {
            clocked = rw e (was.same.clocked ∙ so.clocked);
            lasted = rw e (was.same.lasted ∙ so.lasted);
          }
    ] refl

-- a stamp that isn't uncaused by the moves before it isn't uncaused by its process's counts
pub caused_as : (earlier : List Move) (m : Move) (l : LocalState) → IsCounted earlier m.who l
    → is_taking m ≡ false
    → uncaused earlier m ≡ false → is_uncaused (start_of l) m.event.serial ≡ false
caused_as earlier m l so stamps h =
    let prev = m.event.serial.prev in
    let test = not (prev == last m.who earlier) && nat_lt prev (clock m.who earlier) in
    ap (λ k. not (prev == k) && nat_lt prev l.clock) so.lasted
    ∙ ap (λ k. not (prev == last m.who earlier) && nat_lt prev k) so.clocked
    ∙ sym (ap (λ b. not b && test) stamps) ∙ h

skip_as : (earlier : List Move) (m : Move) (s : State) (r : Process) → process s m.who ≡ Some r
    → IsCounted earlier m.who r.local → move_skip s m ≡ skip earlier m
skip_as earlier m s r here so =
    let count = λ (r : Process). missing_count (start_of r.local) m.event.serial in
    ap (λ o. cond (is_taking m) 0 (option_map_or count o 0)) here
    ∙ ap (λ k. cond (is_taking m) 0 (m.event.serial.this - 1 - k)) so.clocked

-- AN ITEM THAT WENT THROUGH

not_stopped : (b : Bool) (t : Turn) (acts : List Act) (os : List Outcome)
    → cond b (Stopped []) t ≡ Through acts os
    → (b ≡ false) × (t ≡ Through acts os)
not_stopped true t acts os is = absurd (cc)
not_stopped false t acts os is = (refl, is)

marked_runs : (marks : Marks) (m : Move) (t : Turn) (acts : List Act) (os : List Outcome)
    → marked_turn marks m t ≡ Through acts os → (t ≡ Through acts os)
    × (is_marked marks m os ≡ true)
marked_runs marks m (Through xs ps) acts os is =
    elim (is_marked marks m ps) as (λ b. is_marked marks m ps ≡ b
    → cond b (Through xs ps) (Stopped xs) ≡ Through acts os
    → (Through xs ps ≡ Through acts os) × (is_marked marks m os ≡ true)) [
      | true ↦ λ e is. (is, ap (is_marked marks m) (sym (same_Some ps os (ap outcomes_in is))) ∙ e)
      | false ↦ λ e is. absurd (cc)
    ] refl is
marked_runs marks m t acts os is = absurd (cc)

-- the item went through: no reason held of it, and its acts ran and reported what the marks say
record ItemRuns {top : ℕ} (streams : List Stream) (marks : Marks) (c : Construction top)
    (earlier : List Move)
    (m : Move) (acts : List Act) (os : List Outcome) : Type 0 where
  pub low : is_high marks c.world m ≡ false
  pub marked : is_marked marks m os ≡ true
  pub tried : Attempted top c.world (uncaused earlier m) (too_wide earlier m)
      (acts_from streams marks c.world m) acts
      os

item_runs : {top : ℕ} (streams : List Stream) (marks : Marks) (c : Construction top)
    (earlier : List Move) (m : Move)
    (acts : List Act) (os : List Outcome) → item_turn streams marks c earlier m ≡ Through acts os
    → ItemRuns streams marks c earlier m acts os
item_runs {top} streams marks c earlier m acts os is =
    let turn = not_stopped (out_of_turn earlier m) _ acts os is in
    let low = not_stopped (is_high marks c.world m) _ acts os turn.1 in
    let runs = marked_runs marks m _ acts os low.1 in
    record {
      low = low.0;
      marked = runs.1;
      tried = attempt_runs top c.world (uncaused earlier m) (too_wide earlier m)
          (acts_from streams marks c.world m)
          acts os runs.0;
    }

acts_at : (streams : List Stream) (marks : Marks) (s : State) (m : Move) (acts : List Act)
    → acts_from streams marks s m ≡ Some acts
    → (r : Process) × (process s m.who ≡ Some r) × (acts_of streams marks r m ≡ Some acts)
acts_at streams marks s m acts h =
    elim (process s m.who) as (λ o. option_and_then (λ r. acts_of streams marks r m) o ≡ Some acts
    → (r : Process) × (o ≡ Some r) × (acts_of streams marks r m ≡ Some acts)) [
      | None ↦ λ h. absurd (none-some acts h)
      | Some r ↦ λ h. (r, refl, h)
    ] h

module _ (top : ℕ) (s : State) (p : Pid) (e : Event) (rises : e.serial.prev < e.serial.this)
    (r : Process)
    (here : process s p ≡ Some r) (caused : is_uncaused (start_of r.local) e.serial ≡ false)
    (f : Flags) (a : Act)
    (own : IsStampOf p a) (acts : List Act) (os : List Outcome)
    (runs : run_from top s acts ≡ Some os)
    (are : ready p (start_of r.local) e.label e.serial f ++ a ∷ [] ≡ acts) where
  end : LastStep top s (ready p (start_of r.local) e.label e.serial f) a os
  end = last_step top s (ready p (start_of r.local) e.label e.serial f) a os
      (ap (run_from top s) are ∙ runs)

  stamps : Stamps top s p e end.end
  stamps = record {
    before = r;
    is_before = here;
    caused = caused;
    flags = f;
    outcomes = end.front;
    runs = end.runs;
    stamp = a;
    stamps = own;
    steps = end.steps;
  }

  leads : end.end.after ≡ state_after s os
  leads = sym (ap (state_after s) end.whole ∙ state_append s end.front (end.end ∷ []))

  told_moved : last_report None os ≡ Some e → HasMoved p e.serial e.serial.prev s (state_after s os)
  told_moved says =
      let report : end.end.report ≡ Some e =
      sym (ap (last_report None) end.whole ∙ last_report-push None end.front end.end) ∙ says in
      subst (HasMoved p e.serial e.serial.prev s) leads
      (reported_moves top s p e end.end stamps report)

  low_moved : r.local.clock < e.serial.this → HasMoved p e.serial e.serial.prev s (state_after s os)
  unfolding stamps
  low_moved below =
      subst (HasMoved p e.serial e.serial.prev s) leads
      (hidden_moves top s p e end.end stamps rises below)

module _ {top : ℕ} (streams : List Stream) (marks : Marks) (c : Construction top)
    (earlier : List Move)
    (so : IsSoFar streams earlier c) (acts : List Act) (os : List Outcome) where
  module _ (p : Pid) (i : ℕ) (e : Event) (rises : e.serial.prev < e.serial.this)
      (runs : ItemRuns streams marks c earlier (move_by (item.Reported p i) e) acts os)
      (r : Process)
      (here : process c.world p ≡ Some r)
      (are : acts_of streams marks r (move_by (item.Reported p i) e) ≡ Some acts) where
    abbrev m : Move
    m = move_by (item.Reported p i) e

    -- the clock before a stamp that isn't told is below its count
    is_low : is_stamp e ≡ true → marks p i ≡ false → r.local.clock < e.serial.this
    is_low stamps untold =
        let high = not (is_below c.world p e) in
        let test : high ≡ false =
        sym (ap (λ b. not b && (is_stamp e && high)) untold ∙ ap (λ b. b && high) stamps)
        ∙ runs.low in
        let below : nat_lt r.local.clock e.serial.this ≡ true =
        sym (ap (λ o. option_map_or (λ (r : Process). nat_lt r.local.clock e.serial.this) o true)
        here)
        ∙ not_false (is_below c.world p e) test in
        ltb-true r.local.clock e.serial.this below

    stamp_moved : (f : Flags) (a : Act) → IsStampOf p a → is_stamp e ≡ true
        → ready p (start_of r.local) e.label e.serial f ++ a ∷ [] ≡ acts
        → HasMoved p e.serial (count_of m) c.world (state_after c.world os)
    stamp_moved f a own stamps is =
        let taking : is_taking m ≡ false = ap not stamps in
        let caused = caused_as earlier m r.local (so.counted p r here) taking runs.tried.no_one in
        let report = report_same (last_report None os) (if_told (marks p i) e) runs.marked in
        subst (λ b. HasMoved p e.serial (cond b e.serial.this e.serial.prev) c.world
        (state_after c.world os))
        (sym taking)
        (elim (marks p i) as (λ b. marks p i ≡ b
        → HasMoved p e.serial e.serial.prev c.world (state_after c.world os)) [
          | true ↦ λ told. told_moved top c.world p e rises r here caused f a own acts os
              runs.tried.runs is
              (report ∙ ap (λ b. if_told b e) told)
          | false ↦ λ untold. low_moved top c.world p e rises r here caused f a own acts os
              runs.tried.runs is
              (is_low stamps untold)
        ] refl)

    send_moved : e.kind ≡ kind.Send → (o : Option Pid) → e.to ≡ o
        → HasMoved p e.serial (count_of m) c.world (state_after c.world os)
    send_moved is None is_to = absurd (send_goes streams marks p i e r acts are is is_to)
    send_moved is (Some to) is_to =
        stamp_moved (flags_of streams marks m) (act.Send p to e.value) refl (rw is refl)
        (send_acts streams marks p i e r acts are to is is_to)

    receive_moved : e.kind ≡ kind.Receive
        → HasMoved p e.serial (count_of m) c.world (state_after c.world os)
    receive_moved is =
        let taken = receive_acts streams marks p i e r acts are c.world here is in
        let a = act.Receive p (want.Place taken.place) in
        let t = run_parts top c.world a [] os
        (ap (run_from top c.world) taken.same ∙ runs.tried.runs) in
        let leads : t.first.after ≡ state_after c.world os =
        ap (state_after t.first.after) (same_Some [] t.others t.is_rest)
        ∙ sym (ap (state_after c.world) t.is_whole) in
        let taking : is_taking m ≡ true = rw is refl in
        subst (λ b. HasMoved p e.serial (cond b e.serial.this e.serial.prev) c.world
        (state_after c.world os))
        (sym taking)
        (subst (HasMoved p e.serial e.serial.this c.world) leads
        (taken_moves top c.world p e taken.place t.first taken.found t.is_first))

    kind_moved : (k : Kind) → e.kind ≡ k
        → HasMoved p e.serial (count_of m) c.world (state_after c.world os)
    kind_moved kind.Send is = send_moved is e.to refl
    kind_moved kind.Print is =
        stamp_moved (flags_of streams marks m) (act.Print p e.value) refl (rw is refl)
        (print_acts streams marks p i e r acts are is)
    kind_moved kind.Receive is = receive_moved is

  -- a hidden send is a stamp, and its sender's clock is below its count
  hidden_moved : (p : Pid) (i : ℕ) (e : Event) → e.serial.prev < e.serial.this
      → clock e.from earlier < e.serial.this
      → ItemRuns streams marks c earlier (move_by (item.Hidden p i) e) acts os → (r : Process)
      → process c.world e.from ≡ Some r → acts_of streams marks r (move_by (item.Hidden p i) e)
      ≡ Some acts
      → (o : Option Pid) → e.to ≡ o
      → HasMoved e.from e.serial e.serial.prev c.world (state_after c.world os)
  hidden_moved p i e rises below runs r here are None is_to =
      absurd (hidden_goes streams marks p i e r acts are is_to)
  hidden_moved p i e rises below runs r here are (Some to) is_to =
      let m = move_by (item.Hidden p i) e in
      let was = so.counted e.from r here in
      let clocked = was.clocked in
      let caused = caused_as earlier m r.local was refl runs.tried.no_one in
      low_moved top c.world e.from e rises r here caused
      (record { send = false; receive = marks p i; print = false })
      (act.Send e.from to e.value) refl acts os runs.tried.runs
      (hidden_acts streams marks p i e r acts to are is_to) (omega arith)

-- THE NEXT STATE

pub on_ok : {T E : Type 0} (r : Result T E) (P : Type 0) → P → OnOk r P
on_ok (Ok x) P h = h
on_ok (Err e) P h = tt

module _ {top : ℕ} (streams : List Stream) (marks : Marks) (xs : List Item) (n : ℕ)
    (old new : Construction top)
    (so : IsSoFar streams (earlier_of streams (take n xs)) old)
    (rising : IsRising (pids_of streams))
    (order : IsOrder streams xs) (accepted : refusal streams ≡ None) where
  abbrev past : List Move
  past = earlier_of streams (take n xs)

  item_moved : (x : Item) (e : Event) → slice_get xs n ≡ Some x → event_of streams x ≡ Some e
      → (acts : List Act)
      (os : List Outcome) → ItemRuns streams marks old past (move_by x e) acts os → (r : Process)
      → process old.world (move_by x e).who ≡ Some r
      → acts_of streams marks r (move_by x e) ≡ Some acts
      → HasMoved (move_by x e).who (move_by x e).event.serial (count_of (move_by x e)) old.world
      (state_after old.world os)
  item_moved (item.Reported p i) e at there acts os runs r here are =
      let rises = serial_rises streams (paired streams accepted) p i e there in
      kind_moved streams marks old past so acts os p i e rises runs r here are e.kind refl
  item_moved (item.Hidden p i) e at there acts os runs r here are =
      let rises = serial_rises streams (paired streams accepted) p i e there in
      let below = hidden_clock streams xs n p i e rising order at there (omega arith) in
      hidden_moved streams marks old past so acts os p i e rises below runs r here are e.to refl

  item_next : (x : Item) (e : Event) → slice_get xs n ≡ Some x → event_of streams x ≡ Some e
      → (u : Unit {0})
      → WentThrough {T = Unit {0}} SaysNothing (item_turn streams marks old past (move_by x e)) old
      u new
      → new.skipped ≡ move_skip old.world (move_by x e) + old.skipped
      → length new.told.items ≡ length streams
      → AreTold streams (move_by x e ∷ past) new.told.items
      → IsSoFar streams (earlier_of streams (take (n + 1) xs)) new
  item_next x e at there u went skipped listed told =
      let m = move_by x e in
      let runs = item_runs streams marks old past m went.acts went.outcomes went.through in
      let by = acts_at streams marks old.world m went.acts runs.tried.are in
      let was = so.counted m.who by.0 by.1 in
      let more = earlier_more streams xs n x e at there in
      let moved = subst (HasMoved m.who m.event.serial (count_of m) old.world) (sym went.after)
      (item_moved x e at there went.acts went.outcomes runs by.0 by.1 by.2) in
      record {
        counted = subst (λ ms. AreAllCounted ms new.world) (sym more)
            (counted_next past m old.world new.world so.counted moved);
        missed = skipped ∙ ap (λ k. k + old.skipped) (skip_as past m old.world by.0 by.1 was)
            ∙ ap (λ k. skip past m + k) so.missed ∙ ap skips (sym more);
        listed = listed;
        told = subst (λ ms. AreTold streams ms new.told.items) (sym more) told;
      }

  -- unless the item halts, the construction is in the state to which the next move leads
  pub next_so_far : (x : Item) (e : Event) → slice_get xs n ≡ Some x → event_of streams x ≡ Some e
      → (r : Result (Unit {0}) Halt)
      → Meets {T = Unit {0}} SaysNothing (item_turn streams marks old past (move_by x e)) old r new
      → OnOk r (new.skipped ≡ move_skip old.world (move_by x e) + old.skipped)
      → length new.told.items ≡ length streams
      → OnOk r (AreTold streams (move_by x e ∷ past) new.told.items)
      → OnOk r (IsSoFar streams (earlier_of streams (take (n + 1) xs)) new)
  next_so_far x e at there (Ok u) meets skipped listed told =
      item_next x e at there u meets skipped listed told
  next_so_far x e at there (Err h) meets skipped listed told = tt
