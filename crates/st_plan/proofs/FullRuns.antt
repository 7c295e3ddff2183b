-- A run that reports everything has full streams: pairing accepts them, each stamp goes on from
-- the events before it, no send is hidden, and each count is one that a clock has had.
use Rattle.std.proofs.Common.{◌≡◌, ℕ, ◌≤◌, ◌==◌, ◌&&◌, Bool, true, false, cond, List, take, Some}
use Rattle.std.proofs.Common.{None, slice_get, option_and_then, refl, sym, ◌∙◌, ap, subst, arith}
use Rattle.std.specs.List.{All}
use Rattle.std.proofs.lemmas.Bool.{eqb-true, false≢true, and_parts}
use Rattle.std.proofs.lemmas.Option.{cond_some, same_Some}
use Rattle.st_core.specs.declared.types.Pid.{Pid}
use Rattle.st_core.specs.declared.types.Event.{Event}
use Rattle.st_core.specs.declared.types.Act.{Act}
use Rattle.st_core.specs.State.{State, process, zero_state}
use Rattle.st_core.specs.Step.{Outcome}
use Rattle.st_core.specs.Run.{Stream, Shows, pids_of, stream}
use Rattle.st_core.specs.Streams.{events_of}
use Rattle.st_core.specs.Laws.{clock_in, GoesOnFrom, IsSound, KeepsSound, NoReset}
use Rattle.st_core.specs.Laws.{ReportsEverything}
use Rattle.st_core.proofs.ForCallers.{All_at, event_reported, process_holds}
use Rattle.st_core.proofs.ForCallers.{reported_stamps_lift, run_sound, tell_counts}
use Rattle.st_pair.specs.declared.answer.Source.TheVariants as source
use Rattle.st_pair.specs.Places.{event_at, is_stamp}
use Rattle.st_pair.specs.Pairing.{source_of, stamp_of}
use Rattle.st_pair.proofs.ForCallers.{AreShown, given_from, listed_if, own_rule, send_shown}
use Rattle.st_pair.proofs.ForCallers.{shown_accepted}
use Rattle.st_pair.proofs.ForCallers.{shown_events, source_by, source_from, stamp_not_received}
use Rattle.st_order.specs.Items.{is_hidden}
use Rattle.st_plan.specs.Full.{IsFull}
use Rattle.st_plan.proofs.RisingStamps.{hidden_by}

-- a process that has an event is listed, and its events are its reports
events_shown : (streams : List Stream) (acts : List Act) (os : List Outcome) (p : Pid) (i : ℕ)
    (e : Event) → AreShown streams acts os → event_at streams p i ≡ Some e
    → stream acts os p ≡ events_of streams p
events_shown streams acts os p i e shown at =
    sym (shown_events streams acts os p shown (listed_if streams p i e at))

clock_within : (top : ℕ) (s : State) (p : Pid) → All (IsSound top) s → clock_in s p ≤ top
clock_within top s p all = elim (process s p) as (λ o. process s p ≡ o
    → (let n : ℕ = elim o [ None ↦ 0 | Some r ↦ r.local.clock ] in n) ≤ top) [
      | None ↦ λ _. omega arith
      | Some r ↦ λ is. (process_holds (IsSound top) s p r is all).within
    ] refl

module _ (top : ℕ) (streams : List Stream) (acts : List Act) (shows : Shows top streams acts)
    (none : NoReset acts)
    (all : ReportsEverything (zero_state (pids_of streams)) acts shows.0) where
  abbrev outcomes : List Outcome
  outcomes = shows.0

  stamp_goes_on : (p : Pid) (i : ℕ) (e : Event) → event_at streams p i ≡ Some e → is_stamp e ≡ true
      → GoesOnFrom (take i (events_of streams p)) e
  stamp_goes_on p i e at stamp =
      let same = events_shown streams acts outcomes p i e shows.2 at in
      subst (λ es. GoesOnFrom (take i es) e) same
      (tell_counts top (pids_of streams) acts outcomes shows.1 none all p i e
      (ap (λ es. slice_get es i) same ∙ at) (stamp_not_received e stamp))

  send_reported : (p : Pid) (i : ℕ) (e : Event) → event_at streams p i ≡ Some e
      → is_hidden streams e ≡ false
  send_reported p i e at = elim (is_stamp e) as (λ b. is_stamp e ≡ b
      → cond b false (hidden_by (source_of streams e)) ≡ false) [
        | true ↦ λ _. refl
        | false ↦ λ receive.
            let found = send_shown top streams acts shows none all p i e at receive in
            let is : Some (source_of streams e) ≡ Some (source.Event e.from found.0) =
            sym (ap (λ (b : Bool). cond b None (Some (source_of streams e))) receive)
            ∙ sym (ap (option_and_then (source_by streams)) at) ∙ found.1 in
            ap hidden_by (same_Some (source_of streams e) (source.Event e.from found.0) is)
      ] refl

  stamp_within : (p : Pid) (i : ℕ) (e : Event) → event_at streams p i ≡ Some e → is_stamp e ≡ true
      → e.serial.this ≤ top
  stamp_within p i e at stamp =
      let there = ap (λ es. slice_get es i) (events_shown streams acts outcomes p i e shows.2 at)
      ∙ at in
      let told = event_reported acts outcomes p i e there in
      let lifts = reported_stamps_lift top (pids_of streams) acts outcomes shows.1 none p told.0 e
      told.1.reports (stamp_not_received e stamp) in
      let sound = All_at (KeepsSound top) outcomes told.0 lifts.outcome lifts.at
      (run_sound top (pids_of streams) acts outcomes shows.1) in
      subst (λ n. n ≤ top) lifts.reaches (clock_within top lifts.outcome.after p sound.processes)

  -- a receive's count is its send's
  receive_within : (p : Pid) (i : ℕ) (e : Event) → event_at streams p i ≡ Some e
      → is_stamp e ≡ false → e.serial.this ≤ top
  receive_within p i e at receive =
      let this = e.serial.this in
      let shown = ap (λ (b : Bool). cond b false (hidden_by (source_of streams e))) (sym receive)
      ∙ send_reported p i e at in
      elim (stamp_of streams e.from this) as (λ o. stamp_of streams e.from this ≡ o
      → hidden_by (source_from e.from o) ≡ false → this ≤ top) [
        | None ↦ λ _ hidden. absurd (false≢true (sym hidden))
        | Some f ↦ λ is _.
            let found = given_from (own_rule this) e.from 0 (events_of streams e.from) f is in
            let sent = found.1 in
            let tests = and_parts (is_stamp sent) (sent.serial.this == this)
            (cond_some (is_stamp sent && sent.serial.this == this) _ f found.3).0 in
            subst (λ n. n ≤ top) (eqb-true sent.serial.this this tests.1)
            (stamp_within e.from found.0 sent found.2 tests.0)
      ] refl shown

  pub run_full : IsFull top streams
  run_full = record {
    accepted = shown_accepted top streams acts shows none;
    goes_on = stamp_goes_on;
    reported = send_reported;
    within = λ p i e at. elim (is_stamp e) as (λ b. is_stamp e ≡ b → e.serial.this ≤ top) [
      | true ↦ λ stamp. stamp_within p i e at stamp
      | false ↦ λ receive. receive_within p i e at receive
    ] refl;
  }
