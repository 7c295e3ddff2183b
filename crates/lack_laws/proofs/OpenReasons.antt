-- The reasons decide. A reason that holds is final: with any processes that report nothing it
-- would hold of the streams of a run. If none holds, the streams have a completion with enough
-- such processes: each receive gets its send, and then each stamp that needs a receive gets one
-- from a process of its own.
use Rattle.std.proofs.Common.{[], ◌≡◌, inl, inr, ℕ, zero, suc, ◌<◌, ◌||◌, true, false, List, ◌∷◌}
use Rattle.std.proofs.Common.{take, Some, slice_get, refl, sym, ◌∙◌, ap, arith, ◌↔◌, cond, None}
use Rattle.std.proofs.Common.{subst}
use Rattle.std.proofs.lemmas.Bool.{cases_lt, false≢true, ltb-true, true_from_ne_false}
use Rattle.std.proofs.lemmas.Option.{none-some}
use Rattle.st_core.specs.declared.types.Pid.{Pid}
use Rattle.st_core.specs.declared.types.Event.{Event}
use Rattle.st_core.specs.Laws.{greatest_count, NoReset}
use Rattle.st_core.specs.Run.{Stream, Shows}
use Rattle.st_core.specs.Streams.{events_of, IsStreams}
use Rattle.st_core.specs.declared.types.Act.{Act}
use Rattle.st_core.proofs.ForCallers.{or_true}
use Rattle.st_pair.specs.Places.{event_at, is_stamp, first_from}
use Rattle.st_pair.specs.Pairing.{refusal}
use Rattle.st_pair.specs.declared.answer.Source.{Source}
use Rattle.st_pair.specs.declared.answer.Source.TheVariants as source
use Rattle.st_pair.proofs.ForCallers.{agreed, paired, refused_never_shown, own_rule}
use Rattle.st_order.specs.Items.{is_hidden}
use Rattle.st_plan.specs.Marks.{all_streams}
use Rattle.st_plan.proofs.ForCallers.{AreWithin}
use Rattle.lack_laws.specs.Local.{IsNeedless}
use Rattle.lack_laws.specs.OpenReasons.{HasNoOpenReason, Late, OpenReason, Refused}
use Rattle.lack_laws.specs.OpenReasons.{StandsAgainstOpen, IsUnfounded, TooHigh, Unfounded}
use Rattle.lack_laws.specs.Silent.{IsShownWithOthers, with_silent}
use Rattle.lack_laws.specs.Completed.{IsShownInOneTrace}
use Rattle.lack_laws.specs.Needs.{HoldsOfNone, is_late}
use Rattle.lack_laws.proofs.AcceptedStreams.{accepted_if, FitTogether, fit_as, fit_together}
use Rattle.lack_laws.proofs.AcceptedStreams.{seen_if, sent_if, own_at, stamper}
use Rattle.lack_laws.proofs.HiddenSends.{with_sends}
use Rattle.lack_laws.proofs.NeedlessStreams.{leads, needless_shown, on_time}
use Rattle.lack_laws.proofs.OpenStreams.{AreSent, IsOpen}
use Rattle.lack_laws.proofs.SilentSenders.{all_served, AreCaused, caused_at}
use Rattle.lack_laws.proofs.RunCompletions.{shown_full}
use Rattle.lack_laws.proofs.FinalZeros.{shown_founded}
use Rattle.lack_laws.proofs.ToldEvents.{none_late, within_told}
use Rattle.lack_laws.proofs.SilentStreams.{silent_events, silent_sound}

-- FROM THE REASONS

module _ (top : ℕ) (streams : List Stream) (sound : IsStreams streams)
    (none : HasNoOpenReason top streams) where
  fit : FitTogether streams
  fit = fit_together streams (paired streams none.accepted)

  -- a stamp with prev 0 isn't after a receive
  first : (p : Pid) (j i : ℕ) (d e : Event) → j < i → event_at streams p j ≡ Some d
      → event_at streams p i ≡ Some e → is_stamp e ≡ true → e.serial.prev ≡ 0 → is_stamp d ≡ true
  first p j i d e less at_d at_e stamps is_zero =
      true_from_ne_false (is_stamp d) (λ receives. none.founded p i (inl (record {
        event = e;
        at = at_e;
        stamps = stamps;
        is_zero = is_zero;
        index = j;
        received = d;
        received_at = at_d;
        receives = receives;
        behind = less;
      })))

  -- no event tells of a stamp of the same process with a lower count and another prev
  unfounded : (p q : Pid) (i j : ℕ) (f e : Event) → event_at streams p i ≡ Some f
      → event_at streams q j ≡ Some e → (is_stamp e || is_hidden streams e) ≡ true
      → e.serial.prev ≡ 0 → f.from ≡ e.from → f.serial.this < e.serial.this → 0 < f.serial.prev → ⊥
  unfounded p q i j f e at_f at_e tells is_zero from lower above =
      none.founded q j (inr (record {
        zero = record {
          event = e;
          at = at_e;
          is_zero = is_zero;
          pid = p;
          index = i;
          first = f;
          first_at = at_f;
          same = from;
          lower = lower;
          above = above;
        };
        tells = tells;
      }))

  -- a receive of a reported send is no exception: its send has prev 0 too
  never : (p q : Pid) (i j : ℕ) (f e : Event) → event_at streams p i ≡ Some f
      → event_at streams q j ≡ Some e → e.serial.prev ≡ 0 → f.from ≡ e.from
      → f.serial.this < e.serial.this → 0 < f.serial.prev → ⊥
  never p q i j f e at_f at_e is_zero from lower above =
      elim (is_stamp e) as (λ b. is_stamp e ≡ b → ⊥) [
        | true ↦ λ stamps. unfounded p q i j f e at_f at_e
            (ap (λ b. b || is_hidden streams e) stamps) is_zero from lower above
        | false ↦ λ receives. elim (is_hidden streams e) as (λ b. is_hidden streams e ≡ b → ⊥) [
          | true ↦ λ hidden. unfounded p q i j f e at_f at_e
              (ap (λ b. is_stamp e || b) hidden ∙ or_true (is_stamp e)) is_zero from lower above
          | false ↦ λ seen.
              let s = sent_if streams e seen receives in
              let g = s.event in
              let prev = (agreed g e (fit.agree q j s.index e g at_e receives s.at s.stamps
              s.count)).prev in
              let count = s.count in
              let own = stamper g.kind g.from g.to e.from s.stamps
              (own_at streams e.from s.index g sound.draft.own s.at) in
              unfounded p e.from i s.index f g at_f s.at
              (ap (λ b. b || is_hidden streams g) s.stamps) (prev ∙ is_zero) (from ∙ sym own)
              (omega arith) above
        ] refl
      ] refl

  open_if : IsOpen top streams
  open_if = record {
    sound = sound;
    fit = fit;
    leads = λ p j i d e less at_d at_e stamps. (
      leads streams none.timely p j i d e less at_d at_e stamps,
      first p j i d e less at_d at_e stamps,
    );
    roots = λ p q i j d e at_d at_e is_zero from lower. elim (cases_lt 0 d.serial.prev) [
      | inl above ↦ absurd (never p q i j d e at_d at_e is_zero from lower above)
      | inr not_above ↦ omega arith
    ];
    within = none.within;
  }

-- TO A COMPLETION

greatest_low : (es : List Event) (i m : ℕ) → 0 < m → ((j : ℕ) (d : Event) → j < i
    → slice_get es j ≡ Some d → d.serial.this < m) → greatest_count (take i es) < m
greatest_low es zero m above low = above
greatest_low [] (suc i) m above low = above
greatest_low (d ∷ es) (suc i) m above low =
    let here = low 0 d (omega arith) refl in
    let rest = greatest_low es i m above (λ j e less at. low (suc j) e (omega arith) at) in
    omega arith

needless_if : (top : ℕ) (streams : List Stream) → IsOpen top streams → AreSent streams
    → ((q : Pid) → AreCaused [] (events_of streams q)) → IsNeedless top streams
needless_if top streams good sent caused = record {
  accepted = accepted_if streams good.sound.draft.rising good.fit;
  reported = λ p i e at. seen_if streams e (sent p i e at);
  timely = λ p i e at. on_time (is_stamp e) (greatest_count (take i (events_of streams p)))
      e.serial.this (λ stamps.
      greatest_low (events_of streams p) i e.serial.this (omega (arith, good.fit.rises p i e at))
      (λ j d less there. (good.leads p j i d e less there at stamps).0));
  caused = λ p i e at. caused_at [] (events_of streams p) (caused p) i e at;
  within = good.within;
}

pub none_shown_with : (top : ℕ) (streams : List Stream) → IsStreams streams
    → HasNoOpenReason top streams → IsShownWithOthers top streams
none_shown_with top streams sound none =
    let s = with_sends top streams (open_if top streams sound none) in
    let done = all_served top streams (record {
      others = [];
      wholes = s.wholes;
      told = s.told;
      good = s.good;
      sent = s.sent;
    }) in
    let g = done.grown in
    record {
      others = g.others;
      shown = needless_shown top (with_silent streams g.others) (record {
        wholes = g.wholes;
        told = g.told;
        sound = g.good.sound;
        is = needless_if top (all_streams g.wholes) g.good g.sent done.caused;
      });
    }

pub shown_none : (top : ℕ) (streams : List Stream) → IsStreams streams
    → IsShownInOneTrace top streams → HasNoOpenReason top streams
shown_none top streams sound shown =
    let full = shown_full top streams sound.draft.rising shown in
    record {
      accepted = elim (refusal streams) as (λ o. refusal streams ≡ o → o ≡ None) [
        | None ↦ λ _. refl
        | Some f ↦ λ is. absurd (refused_never_shown streams f is top shown.acts shown.one_trace
            shown.shows)
      ] refl;
      timely = subst (HoldsOfNone is_late) full.told (none_late top full.wholes full.is);
      founded = shown_founded top streams sound.draft.rising shown;
      within = subst (AreWithin top) full.told (within_told top full.wholes full.is);
    }

-- WITH PROCESSES THAT REPORT NOTHING

module _ (streams : List Stream) (sound : IsStreams streams) (others : List Pid) where
  abbrev more : List Stream
  more = with_silent streams others

  same : (p : Pid) → events_of more p ≡ events_of streams p
  same = silent_events streams sound others

  there : (p : Pid) (i : ℕ) (e : Event) → event_at streams p i ≡ Some e → event_at more p i ≡ Some e
  there p i e at = ap (λ es. slice_get es i) (same p) ∙ at

  is_hidden_as : (e : Event) → is_hidden more e ≡ is_hidden streams e
  is_hidden_as e =
      ap (λ es. let from : Source = elim (first_from (own_rule e.serial.this) e.from 0 es) [
        | None ↦ source.Hidden
        | Some g ↦ source.Event e.from g.0
      ] in cond (is_stamp e) false (elim from [
        | source.Hidden ↦ true
        | source.Event q j ↦ false
      ])) (same e.from)

  unfounded_as : (p : Pid) (i : ℕ) → IsUnfounded streams p i → IsUnfounded more p i
  unfounded_as p i (inl z) = inl (record {
    event = z.event;
    at = there p i z.event z.at;
    stamps = z.stamps;
    is_zero = z.is_zero;
    index = z.index;
    received = z.received;
    received_at = there p z.index z.received z.received_at;
    receives = z.receives;
    behind = z.behind;
  })
  unfounded_as p i (inr t) = inr (record {
    zero = record {
      event = t.zero.event;
      at = there p i t.zero.event t.zero.at;
      is_zero = t.zero.is_zero;
      pid = t.zero.pid;
      index = t.zero.index;
      first = t.zero.first;
      first_at = there t.zero.pid t.zero.index t.zero.first t.zero.first_at;
      same = t.zero.same;
      lower = t.zero.lower;
      above = t.zero.above;
    };
    tells = ap (λ b. is_stamp t.zero.event || b) (is_hidden_as t.zero.event) ∙ t.tells;
  })

  -- no reason holds without the others if none holds with them
  none_without : (top : ℕ) → HasNoOpenReason top more → HasNoOpenReason top streams
  none_without top none = record {
    accepted = accepted_if streams sound.draft.rising
        (fit_as streams more there (fit_together more (paired more none.accepted)));
    timely = λ p i e at. ap (λ es. is_late (take i es) e) (sym (same p))
        ∙ none.timely p i e (there p i e at);
    founded = λ p i z. none.founded p i (unfounded_as p i z);
    within = λ p i e at. none.within p i e (there p i e at);
  }

pub shown_with_none : (top : ℕ) (streams : List Stream) → IsStreams streams → (others : List Pid)
    → IsShownInOneTrace top (with_silent streams others) → HasNoOpenReason top streams
shown_with_none top streams sound others shown =
    none_without streams sound others top
    (shown_none top (with_silent streams others) (silent_sound streams sound others) shown)

pub open_decides : (top : ℕ) (streams : List Stream) → IsStreams streams
    → IsShownWithOthers top streams ↔ HasNoOpenReason top streams
open_decides top streams sound = (
  λ with. shown_with_none top streams sound with.others with.shown,
  none_shown_with top streams sound,
)

-- REASONS AT THEIR PLACES

contradicts : (top : ℕ) (streams : List Stream) (reason : OpenReason)
    → StandsAgainstOpen top streams reason → HasNoOpenReason top streams → ⊥
contradicts top streams (Refused f) against none = none-some f (sym none.accepted ∙ against)
contradicts top streams (Late p i) against none =
    false≢true (sym (none.timely p i against.event against.at) ∙ against.holds)
contradicts top streams (Unfounded p i) against none = none.founded p i against
contradicts top streams (TooHigh p i) against none =
    let high = ltb-true top against.event.serial.this against.holds in
    absurd (omega (arith, none.within p i against.event against.at))

pub open_final : (top : ℕ) (streams : List Stream) → IsStreams streams → (reason : OpenReason)
    → StandsAgainstOpen top streams reason → (others : List Pid) (acts : List Act) → NoReset acts
    → ¬ Shows top (with_silent streams others) acts
open_final top streams sound reason against others acts one_trace shows =
    contradicts top streams reason against (shown_with_none top streams sound others
    (record { acts = acts; shows = shows; one_trace = one_trace }))
