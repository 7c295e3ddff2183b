-- All that the processes of a run do are full streams, whose told events are the streams. So each
-- stamp that a reported event tells of is in the run with its serial, and each received message's
-- send is there as its receive shows it.
use Rattle.std.proofs.Common.{[], ◌≡◌, inl, inr, ℕ, zero, suc, ◌≤◌, ◌==◌, ◌&&◌, ◌||◌, nat_lt}
use Rattle.std.proofs.Common.{Bool, true, false, not, List, ◌∷◌, length, Option, Some, None}
use Rattle.std.proofs.Common.{slice_get, refl, sym, ◌∙◌, ap}
use Rattle.std.proofs.lemmas.Bool.{and_parts, eqb-true, eq-eqb, false≢true, ltb-false, ltb-true}
use Rattle.std.proofs.lemmas.Bool.{not-true, or_cases}
use Rattle.std.proofs.lemmas.Option.{none-some, same_Some}
use Rattle.st_core.specs.declared.types.Act.{Act}
use Rattle.st_core.specs.declared.types.Event.{Event}
use Rattle.st_core.specs.declared.types.Kind.{Kind}
use Rattle.st_core.specs.declared.types.Kind.TheVariants as kind
use Rattle.st_core.specs.declared.types.Pid.{Pid}
use Rattle.st_core.specs.Laws.{NoReset}
use Rattle.st_core.specs.Pid.{pid_eq, IsRising}
use Rattle.st_core.specs.Run.{Shows, Stream, pids_of}
use Rattle.st_core.specs.Streams.{events_of, is_among, IsStreams, lists}
use Rattle.st_core.proofs.ForCallers.{pid_same}
use Rattle.st_pair.specs.Pairing.{is_send}
use Rattle.st_pair.specs.Places.{event_at, is_stamp}
use Rattle.st_pair.proofs.ForCallers.{agreed, paired}
use Rattle.st_plan.specs.Full.{IsFull}
use Rattle.st_plan.specs.Marks.{all_streams, told_events, told_streams, Marked, Whole}
use Rattle.lack_laws.specs.Needs.{marked_of}
use Rattle.lack_laws.specs.Silent.{with_silent}
use Rattle.lack_laws.specs.Wholes.{wholes_of}
use Rattle.lack_laws.proofs.ForCallers.{events, events_all, events_told, fit_together, go_on}
use Rattle.lack_laws.proofs.ForCallers.{in_all, own_at, stamper, tells}
use Rattle.lack_needs.specs.Additions.{receipt_of}
use Rattle.lack_needs.specs.AllRuns.{HasEvent, HasLostReceive, HoldsInAllRuns}
use Rattle.lack_needs.specs.Losses.{are_of_loss, event_before, is_behind, is_up_to, leaves_other}
use Rattle.lack_needs.specs.Losses.{may_leave, rules_out_stamp, rules_out_told, shows_loss}
use Rattle.lack_needs.proofs.CertainLosses.{loss_by_stamp, loss_by_told, IsStamped}

mark_of_event : (ms : List Marked) (k : ℕ) (e : Event) → slice_get (events ms) k ≡ Some e
    → (m : Marked) × (slice_get ms k ≡ Some m) × (m.event ≡ e)
mark_of_event [] k e at = absurd (none-some e at)
mark_of_event (m ∷ ms) zero e at = (m, refl, same_Some m.event e at)
mark_of_event (m ∷ ms) (suc k) e at = mark_of_event ms k e at

send_kind : (k : Kind) → (let b : Bool = elim k [
  | kind.Send ↦ true
  | kind.Receive ↦ false
  | kind.Print ↦ false
] in b) ≡ true → k ≡ kind.Send
send_kind kind.Send is = refl
send_kind kind.Receive is = absurd (false≢true is)
send_kind kind.Print is = absurd (false≢true is)

-- the two events are there and show a loss
abbrev are_shown : List Event → Pid → ℕ → ℕ → Pid × ℕ → Option Event → Option Event → Bool
are_shown es p i v other one two = not (nat_lt (length es) i) && elim one [
  | None ↦ false
  | Some e ↦ elim two [ None ↦ false | Some f ↦ are_of_loss es p i v e other f ]
]

module _ (top : ℕ) (wholes : List Whole) (sound : IsStreams (all_streams wholes))
    (full : IsFull top (all_streams wholes)) where
  abbrev told : List Stream
  told = told_streams wholes

  -- the stamp that a reported event tells of is in the run
  stamped : (p q : Pid) (j : ℕ) (e : Event) → event_at told q j ≡ Some e → pid_eq e.from p ≡ true
      → IsStamped (marked_of wholes p) e.serial.prev e.serial.this
  stamped p q j e at from =
      let in_run = in_all top wholes sound full q j e at in
      let t = tells top wholes sound full q in_run.0 e in_run.1 in
      let s = t.stamp in
      let there = ap (λ es. slice_get es s.index) (sym (events_all wholes p))
      ∙ ap (λ x. event_at (all_streams wholes) x s.index) (sym (pid_same e.from p from)) ∙ s.at in
      let m = mark_of_event (marked_of wholes p) s.index s.event there in
      record {
        index = s.index;
        marked = m.0;
        at = m.1;
        stamps = ap is_stamp m.2 ∙ s.stamps;
        prev = ap (λ (x : Event). x.serial.prev) m.2 ∙ t.prev;
        count = ap (λ (x : Event). x.serial.this) m.2 ∙ s.count;
      }

  -- if two events show a loss, the run has a lost receive
  two_show : (p : Pid) (i v : ℕ) (e f : Event) (one other : Pid × ℕ)
      → event_at told one.0 one.1 ≡ Some e → event_at told other.0 other.1 ≡ Some f
      → i ≤ length (told_events (marked_of wholes p))
      → are_of_loss (told_events (marked_of wholes p)) p i v e other f ≡ true
      → HasLostReceive i v (marked_of wholes p)
  two_show p i v e f one other at_e at_f long are =
      let ms = marked_of wholes p in
      let es = told_events ms in
      let before = event_before es i in
      let next = slice_get es i in
      let c = e.serial.this in
      let by_told = rules_out_told before p i v other f in
      let by_stamp = rules_out_stamp before p v c f in
      let from = pid_eq e.from p in
      let prev = e.serial.prev == v in
      let behind = is_behind before next c in
      let within = is_up_to next c in
      let rules = and_parts (from && prev && behind && within) (by_told || by_stamp) are in
      let place = and_parts (from && prev && behind) within rules.0 in
      let after = and_parts (from && prev) behind place.0 in
      let own = and_parts from prev after.0 in
      let s = stamped p one.0 one.1 e at_e own.0 in
      let stamp : IsStamped ms v c = record {
        index = s.index;
        marked = s.marked;
        at = s.at;
        stamps = s.stamps;
        prev = s.prev ∙ eqb-true e.serial.prev v own.1;
        count = s.count;
      } in
      let goes = go_on top wholes full p in
      let d = f.serial.this in
      elim (or_cases by_told by_stamp rules.1) [
        | inl by ↦
            let mine = pid_eq other.0 p in
            let less = nat_lt other.1 i in
            let higher = nat_lt v d in
            let leaves = and_parts (mine && less && higher) (leaves_other before v) by in
            let known = and_parts (mine && less) higher leaves.0 in
            let earlier = and_parts mine less known.0 in
            let at = ap (λ xs. slice_get xs other.1) (sym (events_told wholes p))
            ∙ ap (λ x. event_at told x other.1) (sym (pid_same other.0 p earlier.0)) ∙ at_f in
            loss_by_told ms goes i v c stamp long after.1 place.1 other.1 f at
            (ltb-true other.1 i earlier.1) (ltb-true v d known.1) leaves.1
        | inr by ↦
            let u = f.serial.prev in
            let mine = pid_eq f.from p in
            let apart = not (u == v) in
            let higher = nat_lt v d in
            let lower = nat_lt d c in
            let stays = and_parts (mine && apart && higher && lower) (not (may_leave before v d)) by
            in
            let below = and_parts (mine && apart && higher) lower stays.0 in
            let known = and_parts (mine && apart) higher below.0 in
            let differs = and_parts mine apart known.0 in
            loss_by_stamp ms goes i v c stamp long after.1 place.1 u d
            (stamped p other.0 other.1 f at_f differs.0)
            (λ is. false≢true (sym (not-true (u == v) differs.1) ∙ eq-eqb u v is))
            (ltb-true v d known.1) (ltb-true d c below.1)
            (not-true (may_leave before v d) stays.1)
      ]

  shown_lost : (p : Pid) (i v : ℕ) (one other : Pid × ℕ) (e f : Option Event)
      → event_at told one.0 one.1 ≡ e → event_at told other.0 other.1 ≡ f
      → are_shown (told_events (marked_of wholes p)) p i v other e f ≡ true
      → HasLostReceive i v (marked_of wholes p)
  shown_lost p i v one other e f at_e at_f shown =
      let es = told_events (marked_of wholes p) in
      let parts = and_parts (not (nat_lt (length es) i)) (elim e [
        | None ↦ false
        | Some x ↦ elim f [ None ↦ false | Some y ↦ are_of_loss es p i v x other y ]
      ]) shown in
      let long = ltb-false (length es) i (not-true (nat_lt (length es) i) parts.0) in
      elim e as (λ o. event_at told one.0 one.1 ≡ o → (elim o [
        | None ↦ false
        | Some x ↦ elim f [ None ↦ false | Some y ↦ are_of_loss es p i v x other y ]
      ]) ≡ true → HasLostReceive i v (marked_of wholes p)) [
        | None ↦ λ _ no. absurd (false≢true no)
        | Some x ↦ λ at_x are. elim f as (λ o. event_at told other.0 other.1 ≡ o
            → (elim o [ None ↦ false | Some y ↦ are_of_loss es p i v x other y ]) ≡ true
            → HasLostReceive i v (marked_of wholes p)) [
              | None ↦ λ _ no. absurd (false≢true no)
              | Some y ↦ λ at_y are. two_show p i v x y one other at_x at_y long are
            ] at_f are
      ] at_e parts.1

  was_sent : (s : Event) (q : Pid) (j : ℕ) → is_send s ≡ true
      → event_at told q j ≡ Some (receipt_of s) → HasEvent s (marked_of wholes s.from)
  was_sent s q j sends at =
      let all = all_streams wholes in
      let e = receipt_of s in
      let in_run = in_all top wholes sound full q j e at in
      let stamp = (tells top wholes sound full q in_run.0 e in_run.1).stamp in
      let g = stamp.event in
      let fit = fit_together all (paired all full.accepted) in
      let a = agreed g e (fit.agree q in_run.0 stamp.index e g in_run.1 refl stamp.at stamp.stamps
      stamp.count) in
      let from = stamper g.kind g.from g.to s.from stamp.stamps
      (own_at all s.from stamp.index g sound.draft.own stamp.at) in
      let kinds = send_kind g.kind a.sends ∙ sym (send_kind s.kind sends) in
      let same : g ≡ s = λ k. record {
        label = a.label k;
        kind = kinds k;
        to = a.to k;
        from = from k;
        serial = record { prev = a.prev k; this = stamp.count k };
        value = a.value k;
      } in
      let there = ap (λ es. slice_get es stamp.index) (sym (events_all wholes s.from))
      ∙ stamp.at in
      let m = mark_of_event (marked_of wholes s.from) stamp.index g there in
      let is = m.2 ∙ same in
      record {
        index = stamp.index;
        told = m.0.told;
        at = m.1 ∙ (λ k. Some (record { event = is k; told = m.0.told }));
      }

-- IN ALL RUNS

-- the law of `lack_laws` that each run has a full completion
abbrev AreCompleted : Type 0
AreCompleted = (top : ℕ) (streams : List Stream) (acts : List Act) (shows : Shows top streams acts)
    → NoReset acts → IsRising (pids_of streams)
    → (told_streams (wholes_of top streams acts shows.0) ≡ streams)
    × IsStreams (all_streams (wholes_of top streams acts shows.0))
    × IsFull top (all_streams (wholes_of top streams acts shows.0))

-- the law of `lack_laws` that streams stay streams with processes that report nothing
abbrev StayStreams : Type 0
StayStreams = (streams : List Stream) (others : List Pid) → IsStreams streams
    → IsStreams (with_silent streams others)
    × ((p : Pid) → events_of (with_silent streams others) p ≡ events_of streams p)
    × ((p : Pid) → lists (with_silent streams others) p
    ≡ (lists streams p || is_among others p))

module _ (completed : AreCompleted) (stay : StayStreams) (streams : List Stream)
    (sound : IsStreams streams) where
  pub lost_in_all : (p : Pid) (i v : ℕ) (one other : Pid × ℕ)
      → shows_loss streams p i v one other ≡ true
      → (top : ℕ) → HoldsInAllRuns top streams p (HasLostReceive i v)
  lost_in_all p i v one other shown top others acts shows none =
      let s = stay streams others sound in
      let run = completed top (with_silent streams others) acts shows none s.0.draft.rising in
      let wholes = wholes_of top (with_silent streams others) acts shows.0 in
      let told = told_streams wholes in
      let same : (q : Pid) → events_of told q ≡ events_of streams q =
      λ q. ap (λ xs. events_of xs q) run.0 ∙ s.1 q in
      let first = ap (λ es. slice_get es one.1) (same one.0) in
      let second = ap (λ es. slice_get es other.1) (same other.0) in
      shown_lost top wholes run.1 run.2 p i v one other (event_at told one.0 one.1)
      (event_at told other.0 other.1) refl refl
      (ap (λ es. are_shown es p i v other (event_at told one.0 one.1)
      (event_at told other.0 other.1)) (sym (events_told wholes p) ∙ same p)
      ∙ ap (λ o. are_shown (events_of streams p) p i v other o
      (event_at told other.0 other.1)) first
      ∙ ap (are_shown (events_of streams p) p i v other (event_at streams one.0 one.1)) second
      ∙ shown)

  pub sent_in_all : (e : Event) (q : Pid) (j : ℕ)
      → (is_send e ≡ true) × (event_at streams q j ≡ Some (receipt_of e))
      → (top : ℕ) → HoldsInAllRuns top streams e.from (HasEvent e)
  sent_in_all e q j received top others acts shows none =
      let s = stay streams others sound in
      let run = completed top (with_silent streams others) acts shows none s.0.draft.rising in
      let wholes = wholes_of top (with_silent streams others) acts shows.0 in
      let same = ap (λ xs. events_of xs q) run.0 ∙ s.1 q in
      was_sent top wholes run.1 run.2 e q j received.0
      (ap (λ es. slice_get es j) same ∙ received.1)
