-- Each reason that is found is a reason against streams at its place, which rules out all acts
-- without a reset. And a completion that is found needs nothing, so acts show the streams.
use Rattle.std.proofs.Common.{◌≡◌, ◌↔◌, ℕ, ◌<◌, suc, ◌&&◌, nat_lt, not, Bool, true, false}
use Rattle.std.proofs.Common.{List, [], ◌∷◌}
use Rattle.std.proofs.Common.{slice_get, take, Some, None, refl, sym, ◌∙◌, subst, arith}
use Rattle.std.proofs.lemmas.Bool.{false≢true}
use Rattle.std.proofs.lemmas.Bool.Decides.{nat_tests}
use Rattle.std.proofs.lemmas.Option.{same_Some}
use Rattle.st_core.specs.declared.types.Pid.{Pid}
use Rattle.st_core.specs.declared.types.Act.{Act}
use Rattle.st_core.specs.declared.types.Event.{Event}
use Rattle.st_core.specs.Laws.{greatest_count, NoReset}
use Rattle.st_core.specs.Pid.{IsRising}
use Rattle.st_core.specs.Run.{Shows, Stream, pids_of}
use Rattle.st_core.specs.Streams.{events_of, IsStreams}
use Rattle.st_core.proofs.ForCallers.{both_of}
use Rattle.st_pair.specs.declared.answer.PairFault.TheVariants as fault
use Rattle.st_pair.specs.Pairing.{refusal}
use Rattle.st_pair.specs.Places.{event_at, is_stamp}
use Rattle.st_pair.proofs.ForCallers.{paired, serial_rises, stamp_counts_rise}
use Rattle.st_plan.specs.Marks.{all_streams}
use Rattle.lack_laws.specs.Completed.{IsCompleted, IsShownInOneTrace}
use Rattle.lack_laws.specs.Local.{IsNeedless}
use Rattle.lack_laws.specs.Needs.{is_late}
use Rattle.lack_laws.specs.Reasons.{HoldsAt}
use Rattle.lack_laws.specs.OpenReasons.{HasNoOpenReason, Late, OpenReason, Refused}
use Rattle.lack_laws.specs.OpenReasons.{StandsAgainstOpen, TooHigh, Unfounded}
use Rattle.lack_laws.specs.Silent.{with_silent}
use Rattle.lack_laws.proofs.ForCallers.{silent_sound, taken_at}
use Rattle.lack_needs.specs.Completions.{Completed}
use Rattle.lack_decide.specs.declared.answer.Never.{Never}
use Rattle.lack_decide.specs.declared.answer.Never.TheVariants as never
use Rattle.lack_decide.specs.declared.answer.Answer.{Answer}
use Rattle.lack_decide.specs.declared.answer.Answer.TheVariants as answer
use Rattle.lack_decide.specs.Answers.{IsAnswer, IsFinal}
use Rattle.lack_decide.specs.Found.{IsFound, IsFoundReason, IsLastHigherAt}
use Rattle.lack_decide.specs.Higher.{IsHigher, LastHigher}
use Rattle.lack_decide.proofs.Reasons.{none_against, reason_means, sent_if}

-- THE LAST EVENT THAT COUNTS NO LOWER

abbrev IsNot : Bool → Type 0
IsNot stamp = stamp ≡ true → ⊥

receive_if : (stamp : Bool) → IsNot stamp → stamp ≡ false
receive_if stamp never_is = elim stamp as
    (λ b. IsNot b → b ≡ false) [ true ↦ λ h. absurd (h refl) | false ↦ λ h. refl ] never_is

-- the last event whose count isn't lower is a receive, since pairing accepts the streams
pub last_higher : (streams : List Stream) (p : Pid) (i j this : ℕ) (e : Event)
    → refusal streams ≡ None
    → HoldsAt is_late streams p i → event_at streams p i ≡ Some e → this ≡ e.serial.this
    → IsHigher (events_of streams p) i this j → IsLastHigherAt streams p i j
last_higher streams p i j this e accepted late at is higher =
    let same = same_Some late.event e (sym late.at ∙ at) in
    let stamp : is_stamp e ≡ true = subst (λ (x : Event). is_stamp x ≡ true) same
    (both_of (is_stamp late.event) _ late.holds).0 in
    record {
      event = e;
      at = at;
      receive = higher.event;
      there = higher.at;
      before = higher.before;
      receives = receive_if (is_stamp higher.event) (λ stamps.
          let below = stamp_counts_rise streams (paired streams accepted) p j i higher.event e
          higher.before higher.at at stamps stamp in
          let high = higher.high in
          omega (arith, below, high, is));
      high = let high = higher.high in omega (arith, high, is);
      last = λ k f after before there. let low = higher.last k f after before there in
          omega (arith, low, is);
    }

-- THE REASONS ARE FINAL

-- a reason against streams rules out all acts without a reset
abbrev pub AreFinal : Type 0
AreFinal = (top : ℕ) (streams : List Stream) → IsStreams streams → (reason : OpenReason)
    → StandsAgainstOpen top streams reason → (others : List Pid) (acts : List Act)
    → NoReset acts → ¬ Shows top (with_silent streams others) acts

reason_final : (top : ℕ) (streams : List Stream) (p : Pid) (i : ℕ) (reason : Never) → AreFinal
    → IsStreams streams → IsFoundReason top streams p i reason → IsFinal top streams reason
reason_final top streams p i never.PrevNotBefore law sound is =
    λ most. law most streams sound (Refused (fault.PrevNotBefore p i)) is
reason_final top streams p i (never.NotRising j) law sound is =
    λ most. law most streams sound (Refused (fault.NotRising p i j)) is
reason_final top streams p i (never.Repeated q j) law sound is =
    λ most. law most streams sound (Refused (fault.Repeated p i q j)) is
reason_final top streams p i (never.Mismatch q j) law sound is =
    λ most. law most streams sound (Refused (fault.Mismatch p i q j)) is
reason_final top streams p i (never.Late j) law sound is = λ most.
    law most streams sound (Late p i) is.least.holds
reason_final top streams p i never.Unfounded law sound is =
    λ most. law most streams sound (Unfounded p i) is.least.holds
reason_final top streams p i never.TooHigh law sound is =
    law top streams sound (TooHigh p i) is.least.holds

-- STREAMS THAT ARE SHOWN

abbrev pub AreShownIfNeedless : Type 0
AreShownIfNeedless = (top : ℕ) (streams : List Stream) → IsRising (pids_of streams)
    → (IsShownInOneTrace top streams ↔ IsCompleted IsNeedless top streams)

-- acts without a reset show streams in which nothing is needed
abbrev pub AreShownNeedless : Type 0
AreShownNeedless = (top : ℕ) (streams : List Stream) → IsStreams streams → IsNeedless top streams
    → IsShownInOneTrace top streams

-- no reason holds of streams that acts without a reset show
abbrev pub AreUnopposed : Type 0
AreUnopposed = (top : ℕ) (streams : List Stream) → IsStreams streams → (others : List Pid)
    → IsShownInOneTrace top (with_silent streams others) → HasNoOpenReason top streams

pub answered : (top : ℕ) (streams : List Stream) (found : Answer) → AreFinal → AreShownIfNeedless
    → AreShownNeedless → AreUnopposed → IsStreams streams
    → IsFound top streams found → IsAnswer top streams found
answered top streams (answer.Whole completed) final shown needless unopposed sound is =
    let c : Completed = completed in
    let more = silent_sound streams sound c.unlisted in
    let shown_with = (shown top (with_silent streams c.unlisted) more.draft.rising).1 (record {
      wholes = c.wholes;
      told = is.is.told;
      sound = is.is.sound;
      is = is.is.needless;
    }) in
    record {
      completes = is;
      shown = shown_with;
      lacks = record {
        shown = needless top (all_streams c.wholes) is.is.sound is.is.needless;
        sent = λ p i e at. sent_if (all_streams c.wholes) e (is.is.needless.reported p i e at);
        caused = is.is.needless.caused;
      };
      unopposed =
          none_against top streams sound (unopposed top streams sound c.unlisted shown_with);
    }
answered top streams (answer.Never p i reason) final shown needless unopposed sound is =
    record {
      holds = reason_means top streams sound p i reason is;
      final = reason_final top streams p i reason final sound is;
    }

-- AN EVENT THAT IS LATE

greatest_below : (es : List Event) (this : ℕ) → 0 < this
    → ((k : ℕ) (f : Event) → slice_get es k ≡ Some f → f.serial.this < this)
    → greatest_count es < this
greatest_below [] this high each = high
greatest_below (e ∷ es) this high each =
    let first = each 0 e refl in
    let rest = greatest_below es this high (λ k f at. each (suc k) f at) in
    omega (arith, first, rest)

none_if : (stamp less : Bool) → less ≡ true → (stamp && not less) ≡ true → ⊥
none_if true true is h = false≢true h
none_if true false is h = false≢true is
none_if false less is h = false≢true h

-- some event before a late one has a count that isn't lower
pub some_higher : (streams : List Stream) (p : Pid) (i : ℕ) (e : Event) → refusal streams ≡ None
    → HoldsAt is_late streams p i → event_at streams p i ≡ Some e
    → LastHigher (events_of streams p) e.serial.this i None → ⊥
some_higher streams p i e accepted late at lower =
    let es = events_of streams p in
    let same = same_Some late.event e (sym late.at ∙ at) in
    let holds : is_late (take i es) e ≡ true = subst (λ (x : Event). is_late (take i es) x ≡ true)
    same late.holds in
    let rises = serial_rises streams (paired streams accepted) p i e at in
    let low = greatest_below (take i es) e.serial.this (omega (arith, rises))
    (λ k f there. let t = taken_at es i k f there in lower k f t.1 t.0) in
    none_if (is_stamp e) (nat_lt (greatest_count (take i es)) e.serial.this)
    (grind (arith, nat_tests, low)) holds
