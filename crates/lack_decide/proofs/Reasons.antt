-- A rule that finds nothing at an event has no reason against it, and the first event at which it
-- finds something is the first against which its reason stands. So the finding is a reason in the
-- words of the results.
use Rattle.std.proofs.Common.{[], ◌≡◌, ◌⊎◌, ℕ, zero, suc, ◌<◌, ◌≤◌, ◌==◌, ◌&&◌, ◌||◌, nat_lt, not}
use Rattle.std.proofs.Common.{Bool, true, false, cond, inl, inr, List, ◌∷◌, take, Option, Some}
use Rattle.std.proofs.Common.{None, option_and_then, refl, sym, ◌∙◌, ap, subst, arith}
use Rattle.std.proofs.Common.{if◌then◌else◌}
use Rattle.std.specs.Prelude.{is_none, is_some}
use Rattle.std.specs.declared.cmp.Ordering.TheVariants.{Less, Equal, Greater}
use Rattle.std.specs.Ordering.{ordering_reverse}
use Rattle.std.proofs.lemmas.Bool.{and_from, and_parts, cases_lt, cases_order, eq-eqb, eqb-true}
use Rattle.std.proofs.lemmas.Bool.{false≢true, ltb-false, ltb-true, not-false, or_parts}
use Rattle.std.proofs.lemmas.Option.{none-some, option_and_then_some, same_Some}
use Rattle.st_core.specs.declared.types.Pid.{Pid}
use Rattle.st_core.specs.declared.types.Event.{Event}
use Rattle.st_core.specs.Laws.{greatest_count}
use Rattle.st_core.specs.Pid.{pid_cmp, pid_eq, IsRising}
use Rattle.st_core.specs.Run.{Stream, pids_of}
use Rattle.st_core.specs.Streams.{events_of, IsStreams}
use Rattle.st_core.proofs.ForCallers.{pid_cmp-Equal, pid_eq-refl, pid_same, false_if, both_of}
use Rattle.st_pair.specs.declared.answer.PairFault.{PairFault}
use Rattle.st_pair.specs.declared.answer.PairFault.TheVariants as fault
use Rattle.st_pair.specs.declared.answer.Source.{Source}
use Rattle.st_pair.specs.declared.answer.Source.TheVariants as source
use Rattle.st_pair.specs.Laws.{IsEarlier, IsLeast}
use Rattle.st_pair.specs.Pairing.{agrees, first_rule, mismatch, not_rising, prev_not_before}
use Rattle.st_pair.specs.Pairing.{receive_of, refusal, repeated, stamp_before, stamp_of}
use Rattle.st_pair.specs.Places.{event_at, first, is_stamp}
use Rattle.st_pair.proofs.ForCallers.{agreed, agrees_if, cond_none, event_none, first_least}
use Rattle.st_pair.proofs.ForCallers.{got_rule, paired, pid_total, Rule, source_from, got_says}
use Rattle.st_pair.proofs.ForCallers.{some_unless}
use Rattle.st_order.specs.Items.{is_hidden}
use Rattle.lack_laws.specs.Needs.{HoldsOfNone, is_late}
use Rattle.lack_laws.specs.Reasons.{is_too_high}
use Rattle.lack_laws.proofs.ForCallers.{above_if}
use Rattle.st_plan.proofs.ForCallers.{greatest_has}
use Rattle.lack_laws.specs.OpenReasons.{HasNoOpenReason, IsUnfounded}
use Rattle.lack_decide.specs.declared.answer.Never.{Never}
use Rattle.lack_decide.specs.declared.answer.Never.TheVariants as never
use Rattle.lack_decide.specs.Answers.{reason_rank, IsAgainst, IsLast, IsFirstReason, IsSendOf}
use Rattle.lack_decide.specs.Found.{IsFoundReason}

-- ONE PLACE AND ANOTHER

module _ (q p : Pid) (j i : ℕ) where
  in_order : ((pid_eq q p && j == i) ≡ false) → IsEarlier q j p i ⊎ IsEarlier p i q j
  in_order other = elim (pid_cmp q p) as (λ o. pid_cmp q p ≡ o → IsEarlier q j p i
      ⊎ IsEarlier p i q j) [
        | Less ↦ λ is. inl (inl is)
        | Equal ↦ λ is.
            let same = pid_cmp-Equal q p is in
            elim (cases_order j i) [
              | inl index ↦ absurd (false≢true (sym other ∙ and_from (pid_eq q p) (j == i)
                  (ap (λ (x : Pid). pid_eq x p) same ∙ pid_eq-refl p) (eq-eqb j i index)))
              | inr (inl less) ↦ inl (inr (same, less))
              | inr (inr less) ↦ inr (inr (sym same, less))
            ]
        | Greater ↦ λ is. inr (inl (pid_total.antisymm p q ∙ ap ordering_reverse is))
      ] refl

-- WHAT PAIRING ASKS

module _ (streams : List Stream) (p : Pid) where
  -- a property of the events before an index, and of the event there, holds of those up to it
  up_to : (P : ℕ → Event → Type 0) (i : ℕ) → ((f : Event) → event_at streams p i ≡ Some f → P i f)
      → ((k : ℕ) (f : Event) → k < i → event_at streams p k ≡ Some f → P k f)
      → (k : ℕ) (f : Event) → k < suc i → event_at streams p k ≡ Some f → P k f
  up_to P i here before k f within at = elim (cases_lt k i) [
    | inl less ↦ before k f less at
    | inr high ↦
        let same : i ≡ k = omega (arith, within, high) in
        subst (λ n. P n f) same (here f (subst (λ n. event_at streams p n ≡ Some f) (sym same) at))
  ]

  -- the last stamp before an index, if there is one
  abbrev IsLastStamp : ℕ → Option (ℕ × Event) → Type 0
  IsLastStamp i None = (j : ℕ) (f : Event) → j < i → event_at streams p j ≡ Some f
      → is_stamp f ≡ true → ⊥
  IsLastStamp i (Some g) =
      (l : IsLast streams p i (λ f. is_stamp f ≡ true) g.0) × (l.event ≡ g.1)

  still_last : (i : ℕ) (last : Option (ℕ × Event))
      → ((f : Event) → event_at streams p i ≡ Some f → is_stamp f ≡ true → ⊥)
      → IsLastStamp i last → IsLastStamp (suc i) last
  still_last i None here none = up_to (λ _ f. is_stamp f ≡ true → ⊥) i here none
  still_last i (Some g) here found =
      let l = found.0 in
      let low = l.before in
      let last = up_to (λ k f. g.0 < k → is_stamp f ≡ true → ⊥) i (λ f at _. here f at)
      (λ k f less at after. l.last k f after less at) in (
        record {
          event = l.event;
          at = l.at;
          before = omega (arith, low);
          is = l.is;
          last = λ k f after within at. last k f within at after;
        },
        found.1,
      )

  last_stamp : (i : ℕ) → IsLastStamp i (stamp_before (events_of streams p) i)
  last_stamp zero = λ j f less at stamps. omega (arith, less)
  last_stamp (suc i) =
      let rest = stamp_before (events_of streams p) i in
      elim (event_at streams p i) as (λ o. event_at streams p i ≡ o
      → (let last : Option (ℕ × Event) = elim o [
        | None ↦ rest
        | Some f ↦ if is_stamp f then Some (i, f) else rest
      ] in IsLastStamp (suc i) last)) [
        | None ↦ λ none.
            still_last i rest (λ f at. absurd (none-some f (sym none ∙ at))) (last_stamp i)
        | Some f ↦ λ at. elim (is_stamp f)
            as (λ b. is_stamp f ≡ b → IsLastStamp (suc i) (cond b (Some (i, f)) rest)) [
              | true ↦ λ stamps. (
                record {
                  event = f;
                  at = at;
                  before = omega arith;
                  is = stamps;
                  last = λ k d after within there. absurd (omega (arith, after, within));
                },
                refl,
              )
              | false ↦ λ receives. still_last i rest (λ d there stamps. false≢true (sym receives
                  ∙ ap is_stamp (same_Some f d (sym at ∙ there)) ∙ stamps)) (last_stamp i)
            ] refl
      ] refl

got : (q : Pid) (this : ℕ) (p : Pid) (i : ℕ) (e : Event) → is_stamp e ≡ false → e.from ≡ q
    → e.serial.this ≡ this → got_rule q this p i e ≡ Some (p, i)
got q this p i e receives from count =
    let place : Pid × ℕ = (p, i) in
    ap (λ b. cond b None (cond (pid_eq e.from q && e.serial.this == this) (Some place) None))
    receives
    ∙ ap (λ b. cond b (Some place) None) (and_from (pid_eq e.from q) (e.serial.this == this)
    (ap (λ (x : Pid). pid_eq x q) from ∙ pid_eq-refl q) (eq-eqb e.serial.this this count))

-- AN EVENT AND ITS SEND

send_of : (f e : Event) → agrees f e ≡ true → IsSendOf f e
send_of f e h = let is = agreed f e h in (is.sends, is.label, is.prev, is.to, is.value)

sends_it : (f e : Event) → IsSendOf f e → agrees f e ≡ true
sends_it f e is = agrees_if f e
    (record { sends = is.0; label = is.1; prev = is.2; to = is.3; value = is.4 })

-- WHAT EVENTS LEAVE UNSAID

abbrev hides : Source → Bool
hides s = elim s [ source.Hidden ↦ true | source.Event q j ↦ false ]

-- a receive has a hidden send exactly if its sender has no stamp with its count
hidden_as : (stamp : Bool) (q : Pid) (o : Option (ℕ × Event))
    → (stamp || cond stamp false (hides (source_from q o))) ≡ (stamp || is_none o)
hidden_as true q o = refl
hidden_as false q None = refl
hidden_as false q (Some f) = refl

some_as : (stamp : Bool) (q : Pid) (o : Option (ℕ × Event))
    → cond stamp false (hides (source_from q o)) ≡ false → (stamp || is_some o) ≡ true
some_as true q o h = refl
some_as false q None h = absurd (false≢true (sym h))
some_as false q (Some f) h = refl

pub sent_if : (streams : List Stream) (e : Event) → is_hidden streams e ≡ false
    → (is_stamp e || is_some (stamp_of streams e.from e.serial.this)) ≡ true
sent_if streams e = some_as (is_stamp e) e.from (stamp_of streams e.from e.serial.this)

module _ (top : ℕ) (streams : List Stream) (sound : IsStreams streams) where
  pids_rise : IsRising (pids_of streams)
  pids_rise = sound.draft.rising

  -- A REASON THAT ISN'T AGAINST AN EVENT

  -- the rule with this rank finds nothing at the event
  abbrev IsQuiet : ℕ → Pid → ℕ → Event → Type 0
  IsQuiet zero p i e = prev_not_before p i e ≡ None
  IsQuiet (suc zero) p i e = not_rising streams p i e ≡ None
  IsQuiet (suc (suc zero)) p i e = repeated streams p i e ≡ None
  IsQuiet (suc (suc (suc zero))) p i e = mismatch streams p i e ≡ None
  IsQuiet (suc (suc (suc (suc zero)))) p i e = is_late (take i (events_of streams p)) e ≡ false
  IsQuiet (suc (suc (suc (suc (suc zero))))) p i e = IsUnfounded streams p i → ⊥
  IsQuiet (suc (suc (suc (suc (suc (suc n)))))) p i e = is_too_high top [] e ≡ false

  not_falling : (p : Pid) (i : ℕ) (e : Event) (j : ℕ) → not_rising streams p i e ≡ None
      → IsAgainst top streams p i e (never.NotRising j) → ⊥
  not_falling p i e j quiet against =
      let stamps = against.0 in
      let l = against.1 in
      let high = against.2 in
      elim (stamp_before (events_of streams p) i) as (λ o. IsLastStamp streams p i o
      → option_and_then (λ (f : ℕ × Event).
      if not (is_stamp e) || nat_lt f.1.serial.this e.serial.this then None
      else Some (fault.NotRising p i f.0)) o ≡ None → ⊥) [
        | None ↦ λ none quiet. none j l.event l.before l.at l.is
        | Some f ↦ λ other quiet.
            let m = other.0 in
            let test = cond_none (not (is_stamp e) || nat_lt f.1.serial.this e.serial.this)
            (fault.NotRising p i f.0) quiet in
            let less = ltb-true f.1.serial.this e.serial.this
            (ap (λ b. not b || nat_lt f.1.serial.this e.serial.this) (sym stamps) ∙ test) in
            elim (cases_order f.0 j) [
              | inl index ↦
                  let same = same_Some m.event l.event
                  (sym m.at ∙ ap (event_at streams p) index ∙ l.at) in
                  let count : f.1.serial.this ≡ l.event.serial.this =
                  ap (λ (x : Event). x.serial.this) (sym other.1 ∙ same) in
                  omega (arith, less, high, count)
              | inr (inl below) ↦ m.last j l.event below l.before l.at l.is
              | inr (inr below) ↦ l.last f.0 m.event below m.before m.at m.is
            ]
      ] (last_stamp streams p i) quiet

  not_twice : (p : Pid) (i : ℕ) (e : Event) (q : Pid) (j : ℕ) → event_at streams p i ≡ Some e
      → repeated streams p i e ≡ None → IsAgainst top streams p i e (never.Repeated q j) → ⊥
  not_twice p i e q j at quiet against =
      let receives = against.0 in
      let earlier = against.1 in
      let f = against.2 in
      let there = against.3 in
      let receipt = against.4 in
      let from = against.5 in
      let count = against.6 in
      let place : Pid × ℕ = (q, j) in
      elim (receive_of streams e.from e.serial.this)
      as (λ o. receive_of streams e.from e.serial.this ≡ o → option_and_then (λ (x : Pid × ℕ).
      if is_stamp e || (pid_eq x.0 p && x.1 == i) then None else Some (fault.Repeated p i x.0 x.1))
      o ≡ None
      → ⊥) [
        | None ↦ λ none quiet.
            none-some place (sym (event_none (got_rule e.from e.serial.this) streams none q j f
            there)
            ∙ got e.from e.serial.this q j f receipt from count)
        | Some x ↦ λ is quiet.
            let tests = cond_none (is_stamp e || (pid_eq x.0 p && x.1 == i))
            (fault.Repeated p i x.0 x.1) quiet in
            let both = and_parts (pid_eq x.0 p) (x.1 == i)
            (ap (λ b. b || (pid_eq x.0 p && x.1 == i)) (sym receives) ∙ tests) in
            let l = first_least (got_rule e.from e.serial.this) streams x pids_rise is in
            let says = got_says e.from e.serial.this l.pid l.index l.event x l.gives in
            let pid : p ≡ l.pid = sym (says.pid ∙ pid_same x.0 p both.0) in
            let index : i ≡ l.index = sym (says.index ∙ eqb-true x.1 i both.1) in
            let before : IsEarlier q j l.pid l.index =
            subst (λ (r : Pid). IsEarlier q j r l.index) pid
            (subst (λ (n : ℕ). IsEarlier q j p n) index earlier) in
            none-some place (sym (l.least q j f there before)
            ∙ got e.from e.serial.this q j f receipt from count)
      ] refl quiet

  not_other : (p : Pid) (i : ℕ) (e : Event) (q : Pid) (j : ℕ) → mismatch streams p i e ≡ None
      → IsAgainst top streams p i e (never.Mismatch q j) → ⊥
  not_other p i e q j quiet against =
      let receives = against.0 in
      let same = against.1 in
      let f = against.2 in
      let is = against.3 in
      let sent : stamp_of streams e.from e.serial.this ≡ Some (j, f) =
      ap (λ (r : Pid). stamp_of streams r e.serial.this) (sym same) ∙ is in
      let given = ap (option_and_then (λ (g : ℕ × Event). if is_stamp e || agrees g.1 e then None
      else Some (fault.Mismatch p i e.from g.0))) (sym sent) ∙ quiet in
      let tests = cond_none (is_stamp e || agrees f e) (fault.Mismatch p i e.from j) given in
      against.4 (send_of f e (ap (λ b. b || agrees f e) (sym receives) ∙ tests))

  not_late : (p : Pid) (i : ℕ) (e : Event) (j : ℕ) → is_late (take i (events_of streams p)) e
      ≡ false
      → IsAgainst top streams p i e (never.Late j) → ⊥
  not_late p i e j quiet against =
      let stamps = against.0 in
      let l = against.1 in
      let es = events_of streams p in
      let less = ltb-true (greatest_count (take i es)) e.serial.this
      (above_if (is_stamp e) (nat_lt (greatest_count (take i es)) e.serial.this) stamps quiet) in
      omega (arith, less, greatest_has es i j l.event l.at l.before, l.is.1)

  unfounded_if : (p : Pid) (i : ℕ) (e : Event) → event_at streams p i ≡ Some e
      → IsAgainst top streams p i e never.Unfounded → IsUnfounded streams p i
  unfounded_if p i e at against = elim against.1 [
    | inl behind ↦ inl (record {
      event = e;
      at = at;
      stamps = behind.0;
      is_zero = against.0;
      index = behind.1;
      received = behind.2;
      received_at = behind.4;
      receives = behind.5;
      behind = behind.3;
    })
    | inr behind ↦ inr (record {
      zero = record {
        event = e;
        at = at;
        is_zero = against.0;
        pid = behind.1;
        index = behind.2;
        first = behind.3;
        first_at = behind.4;
        same = behind.5;
        lower = behind.6;
        above = behind.7;
      };
      tells = hidden_as (is_stamp e) e.from (stamp_of streams e.from e.serial.this) ∙ behind.0;
    })
  ]

  not_against : (other : Never) (p : Pid) (i : ℕ) (e : Event) → event_at streams p i ≡ Some e
      → IsQuiet (reason_rank other) p i e → IsAgainst top streams p i e other → ⊥
  not_against never.PrevNotBefore p i e at quiet against =
      let less = ltb-true e.serial.prev e.serial.this
      (cond_none (nat_lt e.serial.prev e.serial.this) (fault.PrevNotBefore p i) quiet) in
      omega (arith, less, against)
  not_against (never.NotRising j) p i e at quiet against = not_falling p i e j quiet against
  not_against (never.Repeated q j) p i e at quiet against = not_twice p i e q j at quiet against
  not_against (never.Mismatch q j) p i e at quiet against = not_other p i e q j quiet against
  not_against (never.Late j) p i e at quiet against = not_late p i e j quiet against
  not_against never.Unfounded p i e at quiet against = quiet (unfounded_if p i e at against)
  not_against never.TooHigh p i e at quiet against =
      omega (arith, ltb-false top e.serial.this quiet, against)

  -- THE FIRST THAT IS

  abbrev AreQuiet : ℕ → Type 0
  AreQuiet n = (q : Pid) (j : ℕ) (f : Event) → event_at streams q j ≡ Some f → IsQuiet n q j f

  abbrev AreQuietBefore : Pid → ℕ → ℕ → Type 0
  AreQuietBefore p i n = (q : Pid) (j : ℕ) (f : Event) → event_at streams q j ≡ Some f
      → IsEarlier q j p i → IsQuiet n q j f

  reason_if : (p : Pid) (i : ℕ) (e : Event) (reason : Never) → event_at streams p i ≡ Some e
      → IsAgainst top streams p i e reason → ((n : ℕ) → n < reason_rank reason → AreQuiet n)
      → AreQuietBefore p i (reason_rank reason) → IsFirstReason top streams p i reason
  reason_if p i e reason at holds before earlier = record {
    event = e;
    at = at;
    holds = holds;
    first = λ other q j f there against. elim (cases_lt (reason_rank other) (reason_rank reason)) [
      | inl less ↦ absurd (not_against other q j f there
          (before (reason_rank other) less q j f there) against)
      | inr high ↦ high
    ];
    least = λ other q j f there against same is_earlier.
        not_against other q j f there
        (subst (λ n. IsQuiet n q j f) same (earlier q j f there is_earlier)) against;
  }

  -- the fault of pairing is the first reason, in the words of the results
  abbrev IsMeant : PairFault → Type 0
  IsMeant fault.Memory = Unit {0}
  IsMeant (fault.PrevNotBefore p i) = IsFirstReason top streams p i never.PrevNotBefore
  IsMeant (fault.NotRising p i j) = IsFirstReason top streams p i (never.NotRising j)
  IsMeant (fault.Repeated p i q j) = IsFirstReason top streams p i (never.Repeated q j)
  IsMeant (fault.Mismatch p i q j) = IsFirstReason top streams p i (never.Mismatch q j)

  -- no rule with a lower rank finds anything
  abbrev AreQuietBelow : ℕ → Type 0
  AreQuietBelow n = (m : ℕ) → m < n → AreQuiet m

  quiet_more : (n : ℕ) → AreQuietBelow n → AreQuiet n → AreQuietBelow (suc n)
  quiet_more n below here m less = elim (cases_lt m n) [
    | inl low ↦ below m low
    | inr high ↦ let same : n ≡ m = omega (arith, less, high) in subst AreQuiet same here
  ]

  quiet_prev : first prev_not_before streams ≡ None → AreQuietBelow 1
  quiet_prev none = quiet_more 0 (λ m less. absurd (omega (arith, less)))
      (event_none prev_not_before streams none)

  prev_meant : (x : PairFault) → IsLeast prev_not_before streams x → IsMeant x
  prev_meant x l =
      let e = l.event in
      let parts = some_unless (nat_lt e.serial.prev e.serial.this)
      (fault.PrevNotBefore l.pid l.index) x l.gives in
      let high = ltb-false e.serial.prev e.serial.this parts.0 in
      subst IsMeant parts.1 (reason_if l.pid l.index e never.PrevNotBefore l.at high
      (λ n less. absurd (omega (arith, less))) l.least)

  rising_meant : (x : PairFault) → AreQuietBelow 1 → IsLeast (not_rising streams) streams x
      → IsMeant x
  rising_meant x below l =
      let e = l.event in
      option_and_then_some (λ (f : ℕ × Event).
      if not (is_stamp e) || nat_lt f.1.serial.this e.serial.this then None
      else Some (fault.NotRising l.pid l.index f.0))
      (stamp_before (events_of streams l.pid) l.index) x l.gives (λ f is gives.
      let less = nat_lt f.1.serial.this e.serial.this in
      let parts = some_unless (not (is_stamp e) || less) (fault.NotRising l.pid l.index f.0) x
      gives in
      let tests = or_parts (not (is_stamp e)) less parts.0 in
      let last = subst (IsLastStamp streams l.pid l.index) is (last_stamp streams l.pid l.index) in
      let low = ltb-false f.1.serial.this e.serial.this tests.1 in
      let count = ap (λ (d : Event). d.serial.this) last.1 in
      let high : e.serial.this ≤ last.0.event.serial.this = omega (arith, low, count) in
      subst IsMeant parts.1 (reason_if l.pid l.index e (never.NotRising f.0) l.at
      (not-false (is_stamp e) tests.0, last.0, high) below l.least))

  repeated_meant : (x : PairFault) → AreQuietBelow 2 → IsLeast (repeated streams) streams x
      → IsMeant x
  repeated_meant x below l =
      let e = l.event in
      option_and_then_some (λ (y : Pid × ℕ).
      if is_stamp e || (pid_eq y.0 l.pid && y.1 == l.index) then None
      else Some (fault.Repeated l.pid l.index y.0 y.1))
      (receive_of streams e.from e.serial.this) x l.gives (λ y is gives.
      let here = pid_eq y.0 l.pid && y.1 == l.index in
      let parts = some_unless (is_stamp e || here) (fault.Repeated l.pid l.index y.0 y.1) x
      gives in
      let tests = or_parts (is_stamp e) here parts.0 in
      let m = first_least (got_rule e.from e.serial.this) streams y pids_rise is in
      let says = got_says e.from e.serial.this m.pid m.index m.event y m.gives in
      let there : event_at streams y.0 y.1 ≡ Some m.event =
      subst (λ (r : Pid). event_at streams r y.1 ≡ Some m.event) says.pid
      (subst (λ (n : ℕ). event_at streams m.pid n ≡ Some m.event) says.index m.at) in
      let earlier : IsEarlier y.0 y.1 l.pid l.index =
      elim (in_order y.0 l.pid y.1 l.index tests.1) [
        | inl before ↦ before
        | inr after ↦
            let place : IsEarlier l.pid l.index m.pid m.index =
            subst (λ (r : Pid). IsEarlier l.pid l.index r m.index) (sym says.pid)
            (subst (λ (n : ℕ). IsEarlier l.pid l.index y.0 n) (sym says.index) after) in
            let found : Pid × ℕ = (l.pid, l.index) in
            absurd (none-some found (sym (m.least l.pid l.index e l.at place)
            ∙ got e.from e.serial.this l.pid l.index e tests.0 refl refl))
      ] in
      subst IsMeant parts.1 (reason_if l.pid l.index e (never.Repeated y.0 y.1) l.at
      (tests.0, earlier, m.event, there, says.receives, says.from, says.count) below l.least))

  mismatch_meant : (x : PairFault) → AreQuietBelow 3 → IsLeast (mismatch streams) streams x
      → IsMeant x
  mismatch_meant x below l =
      let e = l.event in
      option_and_then_some (λ (f : ℕ × Event). if is_stamp e || agrees f.1 e then None
      else Some (fault.Mismatch l.pid l.index e.from f.0))
      (stamp_of streams e.from e.serial.this) x l.gives (λ f is gives.
      let parts = some_unless (is_stamp e || agrees f.1 e)
      (fault.Mismatch l.pid l.index e.from f.0) x gives in
      let tests = or_parts (is_stamp e) (agrees f.1 e) parts.0 in
      subst IsMeant parts.1 (reason_if l.pid l.index e (never.Mismatch e.from f.0) l.at
      (tests.0, refl, f.1, is, λ send. false≢true (sym tests.1 ∙ sends_it f.1 e send))
      below l.least))

  -- the rule finds the fault first, or it finds nothing and a later rule does
  by_rule : (x : PairFault) (rule : Rule PairFault) (rules : List (Rule PairFault))
      → (IsLeast rule streams x → IsMeant x)
      → (first rule streams ≡ None → first_rule streams rules ≡ Some x → IsMeant x)
      → first_rule streams (rule ∷ rules) ≡ Some x → IsMeant x
  by_rule x rule rules here rest h = elim (first rule streams) as (λ o. first rule streams ≡ o
      → (let all : Option PairFault = elim o [
        | None ↦ first_rule streams rules
        | Some g ↦
            Some g
      ] in all) ≡ Some x
      → IsMeant x) [
        | None ↦ λ none h. rest none h
        | Some g ↦ λ is h. here (first_least rule streams x pids_rise (is ∙ h))
      ] refl h

  pair_meant : (x : PairFault) → refusal streams ≡ Some x → IsMeant x
  pair_meant x =
      by_rule x prev_not_before (not_rising streams ∷ repeated streams ∷ mismatch streams ∷ [])
      (prev_meant x) (λ none.
      let one = quiet_prev none in
      by_rule x (not_rising streams) (repeated streams ∷ mismatch streams ∷ [])
      (rising_meant x one) (λ none-2.
      let two = quiet_more 1 one (event_none (not_rising streams) streams none-2) in
      by_rule x (repeated streams) (mismatch streams ∷ []) (repeated_meant x two) (λ none-3.
      let three = quiet_more 2 two (event_none (repeated streams) streams none-3) in
      by_rule x (mismatch streams) [] (mismatch_meant x three)
      (λ none-4 h. absurd (none-some x h)))))

  paired_quiet : refusal streams ≡ None → AreQuietBelow 4
  paired_quiet accepted =
      let ok = paired streams accepted in
      let one = quiet_prev ok.prev in
      let two = quiet_more 1 one (event_none (not_rising streams) streams ok.rising) in
      let three = quiet_more 2 two (event_none (repeated streams) streams ok.once) in
      quiet_more 3 three (event_none (mismatch streams) streams ok.matched)

  late_quiet : refusal streams ≡ None → HoldsOfNone is_late streams → AreQuietBelow 5
  late_quiet accepted timely = quiet_more 4 (paired_quiet accepted) timely

  founded_quiet : refusal streams ≡ None → HoldsOfNone is_late streams
      → ((q : Pid) (j : ℕ) → IsUnfounded streams q j → ⊥) → AreQuietBelow 6
  founded_quiet accepted timely founded =
      quiet_more 5 (late_quiet accepted timely) (λ q j f at. founded q j)

  -- if no reason holds of the streams, none holds of any event
  pub none_against : HasNoOpenReason top streams → (reason : Never) (p : Pid) (i : ℕ) (e : Event)
      → event_at streams p i ≡ Some e → ¬ IsAgainst top streams p i e reason
  none_against none never.TooHigh p i e at = λ against.
      omega (arith, none.within p i e at, against)
  none_against none reason p i e at =
      not_against reason p i e at
      (founded_quiet none.accepted none.timely none.founded (reason_rank reason) (omega arith) p i e
      at)

  pub reason_means : (p : Pid) (i : ℕ) (reason : Never) → IsFoundReason top streams p i reason
      → IsFirstReason top streams p i reason
  reason_means p i never.PrevNotBefore is = pair_meant (fault.PrevNotBefore p i) is
  reason_means p i (never.NotRising j) is = pair_meant (fault.NotRising p i j) is
  reason_means p i (never.Repeated q j) is = pair_meant (fault.Repeated p i q j) is
  reason_means p i (never.Mismatch q j) is = pair_meant (fault.Mismatch p i q j) is
  reason_means p i (never.Late j) is =
      let h = is.higher in
      let at = is.least.holds.at in
      let e = is.least.holds.event in
      let same = same_Some h.event e (sym h.at ∙ at) in
      let count : h.event.serial.this ≡ e.serial.this = ap (λ (x : Event). x.serial.this) same in
      let high = h.high in
      reason_if p i e (never.Late j) at (
        (both_of (is_stamp e) _ is.least.holds.holds).0,
        record {
          event = h.receive;
          at = h.there;
          before = h.before;
          is = (h.receives, omega (arith, high, count));
          last = λ k f after before there no_lower.
              omega (arith, h.last k f after before there, no_lower.1, count);
        },
      )
      (paired_quiet is.accepted)
      (λ q j f there earlier. false_if (is_late (take j (events_of streams q)) f)
      (λ late. is.least.least q j earlier (record { event = f; at = there; holds = late })))
  reason_means p i never.Unfounded is = elim is.least.holds [
    | inl z ↦ reason_if p i z.event never.Unfounded z.at
        (z.is_zero, inl (z.stamps, z.index, z.received, z.behind, z.received_at, z.receives))
        (late_quiet is.accepted is.timely) (λ q j f there earlier. is.least.least q j earlier)
    | inr t ↦
        let z = t.zero in
        let e = z.event in
        reason_if p i e never.Unfounded z.at (
          z.is_zero,
          inr (
            sym (hidden_as (is_stamp e) e.from (stamp_of streams e.from e.serial.this)) ∙ t.tells,
            z.pid,
            z.index,
            z.first,
            z.first_at,
            z.same,
            z.lower,
            z.above,
          ),
        )
        (late_quiet is.accepted is.timely) (λ q j f there earlier. is.least.least q j earlier)
  ]
  reason_means p i never.TooHigh is =
      let h = is.least.holds in
      reason_if p i h.event never.TooHigh h.at (ltb-true top h.event.serial.this h.holds)
      (founded_quiet is.accepted is.timely is.founded)
      (λ q j f there earlier. false_if (nat_lt top f.serial.this)
      (λ high. is.least.least q j earlier (record { event = f; at = there; holds = high })))
