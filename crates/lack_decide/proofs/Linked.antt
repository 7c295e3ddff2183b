-- Nothing is needed in streams whose events are all fit: each receive has a send that links back
-- to it, so no two receives have one send.
use Rattle.std.proofs.Common.{◌≡◌, ℕ, ◌<◌, ◌≤◌, suc, nat_lt, Bool, true}
use Rattle.std.proofs.Common.{false, cond, inl, inr, List, [], ◌∷◌, length, take}
use Rattle.std.proofs.Common.{slice_get, Option, Some, None, refl, sym, ◌∙◌, ap, subst, arith}
use Rattle.std.proofs.lemmas.Bool.{cases_lt, ltb-true}
use Rattle.std.proofs.lemmas.Option.{none-some, same_Some, slice_get_within}
use Rattle.st_core.specs.declared.types.Pid.{Pid}
use Rattle.st_core.specs.declared.types.Event.{Event}
use Rattle.st_core.specs.Laws.{greatest_count}
use Rattle.st_core.specs.Pid.{pid_eq}
use Rattle.st_core.specs.Run.{Stream, pids_of}
use Rattle.st_core.specs.Streams.{events_of, stream_of, IsStreams}
use Rattle.st_core.proofs.ForCallers.{pid_same}
use Rattle.st_pair.specs.Pairing.{agrees, is_send, refusal, source_of, stamp_of}
use Rattle.st_pair.specs.Places.{event_at, is_stamp}
use Rattle.st_pair.specs.declared.answer.Source.{Source}
use Rattle.st_pair.specs.declared.answer.Source.TheVariants as source
use Rattle.st_pair.proofs.ForCallers.{agrees_if, events_in, paired, source_from, stamp_once}
use Rattle.st_pair.proofs.ForCallers.{send_stamps}
use Rattle.st_order.specs.Items.{is_hidden}
use Rattle.lack_laws.specs.Local.{IsNeedless}
use Rattle.lack_laws.proofs.ForCallers.{accepted_if, own_at, received_to, FitTogether, above_if}
use Rattle.lack_needs.specs.Additions.{receipt_of}
use Rattle.lack_needs.proofs.ForCallers.{one_place}
use Rattle.lack_decide.specs.Links.{other_end, AreEventsFit, IsLinked}
use Rattle.st_plan.proofs.ForCallers.{greatest_has}

-- THE EVENTS OF A PROCESS

pub place_with : (streams : List Stream) (p : Pid) (i : ℕ) (e : Event)
    → event_at streams p i ≡ Some e → (k : ℕ) × (slice_get (pids_of streams) k ≡ Some p)
place_with [] p i e at = absurd (none-some e at)
place_with (x ∷ streams) p i e at =
    elim (pid_eq x.pid p) as (λ b. pid_eq x.pid p ≡ b
    → slice_get (events_in (cond b (Some x) (stream_of streams p))) i ≡ Some e
    → (k : ℕ) × (slice_get (x.pid ∷ pids_of streams) k ≡ Some p)) [
      | true ↦ λ same at. (0, ap (λ (q : Pid). Some q) (pid_same x.pid p same))
      | false ↦ λ other at. let rest = place_with streams p i e at in (suc rest.0, rest.1)
    ] refl at

-- A SEND AND ITS RECEIVE

agrees_received : (f : Event) → is_send f ≡ true → agrees f (receipt_of f) ≡ true
agrees_received f sends =
    agrees_if f (receipt_of f)
    (record { sends = sends; label = refl; prev = refl; to = refl; value = refl })

abbrev hides_by : Source → Bool
hides_by from = elim from [ source.Hidden ↦ true | source.Event q j ↦ false ]

-- FIT EVENTS

-- the events of the first n processes are fit
abbrev pub AllFit : ℕ → List Stream → List (List ℕ) → ℕ → Type 0
AllFit top streams links n = (k : ℕ) (p : Pid) → k < n → slice_get (pids_of streams) k ≡ Some p
    → AreEventsFit top streams links (events_of streams p)

module _ (top : ℕ) (streams : List Stream) (links : List (List ℕ)) (sound : IsStreams streams)
    (fit : (p : Pid) → AreEventsFit top streams links (events_of streams p)) where
  grows : (p : Pid) (j i : ℕ) (d e : Event) → j < i → event_at streams p j ≡ Some d
      → event_at streams p i ≡ Some e → is_stamp e ≡ true → d.serial.this < e.serial.this
  grows p j i d e less at there stamps =
      let below = greatest_has (events_of streams p) i j d at less in
      let before = take i (events_of streams p) in
      let above = ltb-true (greatest_count before) e.serial.this (above_if (is_stamp e)
      (nat_lt (greatest_count before) e.serial.this) stamps (fit p i e there).goes_on.timely) in
      omega (arith, below, above)

  one_stamp : (p : Pid) (j i : ℕ) (d e : Event) → event_at streams p j ≡ Some d
      → event_at streams p i ≡ Some e
      → is_stamp d ≡ true → is_stamp e ≡ true → d.serial.this ≡ e.serial.this → j ≡ i
  one_stamp p j i d e at there stamp stamps same = elim (cases_lt j i) [
    | inl less ↦ let more = grows p j i d e less at there stamps in
        absurd (omega (arith, more, same))
    | inr least ↦ elim (cases_lt i j) [
      | inl less ↦ let more = grows p i j e d less there at stamp in
          absurd (omega (arith, more, same))
      | inr most ↦ omega (arith, least, most)
    ]
  ]

  abbrev Sent : ℕ → Event → Type 0
  Sent i e = IsLinked streams links i e

  sent_count : (i : ℕ) (e : Event) (s : Sent i e) → s.sent.serial.this ≡ e.serial.this
  sent_count i e s = ap (λ (x : Event). x.serial.this) s.same

  sent_once : (i j : ℕ) (d e : Event) (s : Sent i d) (t : Sent j e) → d.from ≡ e.from
      → d.serial.this ≡ e.serial.this → (s.sent ≡ t.sent) × (i ≡ j)
  sent_once i j d e s t from count =
      let there : event_at streams e.from s.index ≡ Some s.sent =
      subst (λ (p : Pid). event_at streams p s.index ≡ Some s.sent) from s.there in
      let counts : s.sent.serial.this ≡ t.sent.serial.this = sent_count i d s ∙ count
      ∙ sym (sent_count j e t) in
      let index : s.index ≡ t.index = one_stamp e.from s.index t.index s.sent t.sent there t.there
      (send_stamps s.sent s.sends) (send_stamps t.sent t.sends) counts in
      let at : slice_get (pids_of streams) s.place ≡ Some e.from =
      subst (λ (p : Pid). slice_get (pids_of streams) s.place ≡ Some p) from s.at in
      let place : s.place ≡ t.place = one_place
      (pids_of streams) s.place t.place e.from sound.draft.rising at t.at in (
        same_Some s.sent t.sent (sym there ∙ ap (event_at streams e.from) index ∙ t.there),
        sym s.back ∙ ap (λ k. other_end links k s.index) place ∙ ap (other_end links t.place) index
            ∙ t.back,
      )

  to_own : (p : Pid) (i : ℕ) (e : Event) → event_at streams p i ≡ Some e → is_stamp e ≡ false
      → e.to ≡ Some p
  to_own p i e at receives =
      received_to e.kind e.from e.to p receives (own_at streams p i e sound.draft.own at)

  fitting : FitTogether streams
  fitting = record {
    rises = λ p i e at. (fit p i e at).goes_on.rises;
    grows = λ p j i d e less at there stamp stamps. grows p j i d e less at there stamps;
    once = λ p q i j d e at there receives received from count.
        let s = (fit p i d at).linked receives in
        let t = (fit q j e there).linked received in
        let one = sent_once i j d e s t from count in
        let to : d.to ≡ e.to = sym (ap (λ (x : Event). x.to) s.same)
        ∙ ap (λ (x : Event). x.to) one.0
        ∙ ap (λ (x : Event). x.to) t.same in
        (same_Some p q (sym (to_own p i d at receives) ∙ to ∙ to_own q j e there received), one.1);
    agree = λ p i j e f at receives there stamps count.
        let s = (fit p i e at).linked receives in
        let index : s.index ≡ j = one_stamp e.from s.index j s.sent f s.there there
        (send_stamps s.sent s.sends) stamps
        (sent_count i e s ∙ sym count) in
        let is : s.sent ≡ f = same_Some s.sent f (sym s.there ∙ ap (event_at streams e.from) index
        ∙ there) in
        subst (λ (x : Event). agrees x e ≡ true) is
        (subst (λ (x : Event). agrees s.sent x ≡ true) s.same (agrees_received s.sent s.sends));
  }

  pub accepted : refusal streams ≡ None
  accepted = accepted_if streams sound.draft.rising fitting

  reported : (p : Pid) (i : ℕ) (e : Event) → event_at streams p i ≡ Some e
      → is_hidden streams e ≡ false
  reported p i e at = elim (is_stamp e) as (λ b. is_stamp e ≡ b
      → cond b false (elim (source_of streams e) [
        | source.Hidden ↦ true
        | source.Event q j ↦ false
      ]) ≡ false) [
        | true ↦ λ stamps. refl
        | false ↦ λ receives.
            let s = (fit p i e at).linked receives in
            let sent : stamp_of streams e.from e.serial.this ≡ Some (s.index, s.sent) =
            ap (stamp_of streams e.from) (sym (sent_count i e s))
            ∙ stamp_once streams (paired streams accepted) e.from s.index s.sent s.there
            (send_stamps s.sent s.sends) in
            ap (λ (o : Option (ℕ × Event)). hides_by (source_from e.from o)) sent
      ] refl

  pub needless : IsNeedless top streams
  needless = record {
    accepted = accepted;
    reported = reported;
    timely = λ p i e at. (fit p i e at).goes_on.timely;
    caused = λ p i e at. (fit p i e at).goes_on.caused;
    within = λ p i e at. (fit p i e at).goes_on.within;
  }

-- each event is fit if those of all processes are
pub all_fit : (top : ℕ) (streams : List Stream) (links : List (List ℕ)) (n : ℕ)
    → length (pids_of streams) ≤ n
    → AllFit top streams links n → (p : Pid) → AreEventsFit top streams links (events_of streams p)
all_fit top streams links n all each p i e at =
    let found = place_with streams p i e at in
    let within = slice_get_within (pids_of streams) found.0 p found.1 in
    each found.0 p (omega (arith, within, all)) found.1 i e at
