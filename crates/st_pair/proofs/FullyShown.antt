-- Streams that acts without a reset show and report in full hide no send: the send of each receive
-- is an event of its sender, and pairing, which accepts such streams, finds it by its count.
use Rattle.std.proofs.Common.{◌≡◌, ℕ, ◌||◌, Bool, true, false, cond, List, [], ◌∷◌, length, take}
use Rattle.std.proofs.Common.{Option, Some, None, IsSome, option_and_then, refl, sym, ◌∙◌, ap}
use Rattle.std.specs.List.{slice_get}
use Rattle.std.specs.Option.{option_map_or}
use Rattle.std.proofs.lemmas.Bool.{false≢true, and_parts}
use Rattle.std.proofs.lemmas.List.Elements.{All-head, All-tail}
use Rattle.std.proofs.lemmas.Option.{none-some, option_and_then_some}
use Rattle.st_core.specs.declared.types.Pid.{Pid}
use Rattle.st_core.specs.declared.types.Kind.TheVariants as kind
use Rattle.st_core.specs.declared.types.Event.{Event}
use Rattle.st_core.specs.declared.types.Act.{Act}
use Rattle.st_core.specs.declared.types.Act.TheVariants as act
use Rattle.st_core.specs.Pid.{pid_eq}
use Rattle.st_core.specs.State.{zero_state}
use Rattle.st_core.specs.Step.{Outcome}
use Rattle.st_core.specs.Run.{Stream, Shows, pids_of, stream}
use Rattle.st_core.specs.Streams.{stream_of, events_of, is_among}
use Rattle.st_core.specs.Laws.{NoReset, ReportsEverything, Reports, ReportsAmong}
use Rattle.st_core.proofs.ForCallers.{pid_eq-true, AllZip_at, run_named, event_reported}
use Rattle.st_core.proofs.ForCallers.{report_told, have_sends, reported_sends_agree}
use Rattle.st_pair.specs.declared.answer.Source.TheVariants as source
use Rattle.st_pair.specs.Places.{event_at, is_stamp}
use Rattle.st_pair.specs.Pairing.{stamp_of, source_of, source_at, refusal}
use Rattle.st_pair.proofs.AcceptedEvents.{paired}
use Rattle.st_pair.proofs.Converse.{stamp_once, source_by, source_from}
use Rattle.st_pair.proofs.Firsts.{events_in}
use Rattle.st_pair.proofs.FinalReasons.{AreShown, shown_at, taken, refused_never_shown}

-- pairing accepts streams that acts without a reset show
pub shown_accepted : (top : ℕ) (streams : List Stream) (acts : List Act) → Shows top streams acts
    → NoReset acts
    → refusal streams ≡ None
shown_accepted top streams acts shows none =
    elim (refusal streams) as (λ o. refusal streams ≡ o → o ≡ None) [
      | None ↦ λ _. refl
      | Some f ↦ λ is. absurd (refused_never_shown streams f is top acts none shows)
    ] refl

-- a process with an event is listed
pub listed_if : (streams : List Stream) (p : Pid) (i : ℕ) (e : Event)
    → event_at streams p i ≡ Some e
    → is_among (pids_of streams) p ≡ true
listed_if [] p i e at = absurd (none-some e at)
listed_if (x ∷ streams) p i e at = elim (pid_eq x.pid p) as (λ b.
    slice_get (events_in (cond b (Some x) (stream_of streams p))) i ≡ Some e
    → (b || is_among (pids_of streams) p) ≡ true) [
      | true ↦ λ _. refl
      | false ↦ λ at. listed_if streams p i e at
    ] at

-- the events of a listed process are its reports
pub shown_events : (streams : List Stream) (acts : List Act) (os : List Outcome) (p : Pid)
    → AreShown streams acts os
    → is_among (pids_of streams) p ≡ true → events_of streams p ≡ stream acts os p
shown_events [] acts os p shown h = absurd (false≢true h)
shown_events (x ∷ streams) acts os p shown h =
    let whole = λ (y : Stream). stream acts os y.pid ≡ y.events in
    elim (pid_eq x.pid p) as (λ b. pid_eq x.pid p ≡ b → (b || is_among (pids_of streams) p) ≡ true
    → events_in (cond b (Some x) (stream_of streams p)) ≡ stream acts os p) [
      | true ↦ λ same _. sym (All-head whole x streams shown)
          ∙ ap (stream acts os) (pid_eq-true x.pid p same)
      | false ↦ λ _ h. shown_events streams acts os p (All-tail whole x streams shown) h
    ] refl h

-- the sender that a reported event names is listed
pub from_listed : (top : ℕ) (streams : List Stream) (acts : List Act)
    (shows : Shows top streams acts) (p : Pid) (n : ℕ)
    (e : Event) → Reports acts shows.0 p n e → is_among (pids_of streams) e.from ≡ true
from_listed top streams acts shows p n e r =
    let pids = pids_of streams in
    option_and_then_some (λ (o : Outcome). o.report) (slice_get shows.0 n) e r.report (λ o out is.
    let each = run_named top pids acts shows.0 shows.1 in
    let named = AllZip_at (ReportsAmong pids) acts shows.0 n r.act o each r.at out in
    (and_parts (is_among pids e.from) (option_map_or (is_among pids) e.to true)
    (named e is).names).0)

there_is : {X : Type 0} (o : Option X) → IsSome o → (x : X) × (o ≡ Some x)
there_is None h = absurd (false≢true h)
there_is (Some x) h = (x, refl)

module _ (top : ℕ) (streams : List Stream) (acts : List Act) (shows : Shows top streams acts)
    (none : NoReset acts)
    (all : ReportsEverything (zero_state (pids_of streams)) acts shows.0) where
  pub send_shown : (p : Pid) (i : ℕ) (e : Event) → event_at streams p i ≡ Some e
      → is_stamp e ≡ false
      → (j : ℕ) × (source_at streams p i ≡ Some (source.Event e.from j))
  send_shown p i e at receives =
      let os = shows.0 in
      let q = e.from in
      let r = event_reported acts os p i e (shown_at streams acts os p i e shows.2 at) in
      let a = taken top streams acts os shows.1 shows.2 none p i e r.0 r.1 receives in
      let s = a.send in
      let told = there_is _ (have_sends top (pids_of streams) acts os shows.1 all r.0 s
      a.follows) in
      let f = told.0 in
      let same : f ≡ (let x : Event = record e { kind = kind.Send } in x) =
      reported_sends_agree top (pids_of streams) acts os shows.1 r.0 s a.follows f told.1
      ∙ ap (λ (y : Event). let x : Event = record y { kind = kind.Send } in x) a.event in
      let x = a.follows.event in
      let own : x.from ≡ q = ap (λ (y : Event). y.from) a.event in
      let reports : Reports acts os q s f =
      record {
        act = act.Send x.from a.follows.to x.value;
        at = a.follows.sends;
        own = own;
        report =
            told.1;
      } in
      let j = length (stream (take s acts) (take s os) q) in
      let events = shown_events streams acts os q shows.2
      (from_listed top streams acts shows p r.0 e r.1.reports) in
      let there : event_at streams q j ≡ Some f =
      ap (λ es. slice_get es j) events ∙ report_told acts os q s f reports in
      let stamp = stamp_once streams (paired streams (shown_accepted top streams acts shows none)) q
      j f there
      (ap is_stamp same) in
      let count = ap (λ (y : Event). y.serial.this) same in
      let sent : stamp_of streams q e.serial.this ≡ Some (j, f) =
      ap (stamp_of streams q) (sym count) ∙ stamp in (
        j,
        ap (option_and_then (source_by streams)) at
            ∙ ap (λ (b : Bool). cond b None (Some (source_of streams e))) receives
            ∙ ap (λ (o : Option (ℕ × Event)). Some (source_from q o)) sent,
      )
