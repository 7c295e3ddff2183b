-- Pairing accepts streams exactly if any two of their events fit, since each rule of pairing looks
-- at two events at most. And a receive's send is hidden exactly if no stamp of its sender has its
-- count.
use Rattle.std.proofs.Common.{[], ◌≡◌, ℕ, Bool, true, false, cond, List, ◌∷◌, Option, Some, None}
use Rattle.std.proofs.Common.{is_none, is_some, slice_get, refl, sym, ◌∙◌, ap, zero, suc, ◌+◌, ◌<◌}
use Rattle.std.proofs.Common.{◌==◌, ◌&&◌, ◌||◌, nat_lt, not, subst, arith}
use Rattle.std.proofs.Common.{option_and_then}
use Rattle.std.proofs.lemmas.Bool.{and_parts, false≢true, eq-eqb, eqb-true, and_from, lt-ltb}
use Rattle.std.proofs.lemmas.Bool.{not-false}
use Rattle.std.proofs.lemmas.Option.{cond_some, none-some, option_and_then_some, same_Some}
use Rattle.st_core.specs.declared.types.Pid.{Pid}
use Rattle.st_core.specs.declared.types.Kind.{Kind}
use Rattle.st_core.specs.declared.types.Event.{Event}
use Rattle.st_core.specs.Pid.{pid_eq, IsRising}
use Rattle.st_core.specs.Run.{Stream, pids_of}
use Rattle.st_core.specs.Streams.{AreOwn, is_of, is_own, stream_of, events_of}
use Rattle.st_core.specs.declared.types.Kind.TheVariants as kind
use Rattle.st_core.proofs.ForCallers.{all_at, pid_same, pid_eq-refl}
use Rattle.st_pair.specs.Places.{event_at, first, is_stamp}
use Rattle.st_pair.specs.declared.answer.PairFault.{PairFault}
use Rattle.st_pair.specs.Pairing.{agrees, first_rule, mismatch, not_rising, prev_not_before}
use Rattle.st_pair.specs.Pairing.{receive_of, refusal, repeated, stamp_before, stamp_of}
use Rattle.st_pair.specs.declared.answer.PairFault.TheVariants as fault
use Rattle.st_pair.specs.declared.answer.Source.TheVariants as source
use Rattle.st_pair.proofs.ForCallers.{events_in, given_at, given_from, got_rule, own_rule, Rule}
use Rattle.st_pair.proofs.ForCallers.{from_none, cond_none, event_none, got_says, IsPaired}
use Rattle.st_pair.proofs.ForCallers.{once_place}
use Rattle.st_pair.proofs.ForCallers.{serial_rises, source_from, stamp_counts_rise, stamp_once}
use Rattle.st_order.specs.Items.{is_hidden}

-- WHO AN EVENT IS FROM

-- a stamp is from its own process
pub stamper : (k : Kind) (from : Pid) (to : Option Pid) (p : Pid)
    → (let b : Bool = elim k [ kind.Send ↦ true | kind.Receive ↦ false | kind.Print ↦ true ] in b)
    ≡ true
    → is_of k from to p ≡ true → from ≡ p
stamper kind.Send from to p stamps own = pid_same from p
    (and_parts (pid_eq from p) (is_some to) own).0
stamper kind.Receive from to p stamps own = absurd (false≢true stamps)
stamper kind.Print from to p stamps own = pid_same from p
    (and_parts (pid_eq from p) (is_none to) own).0

pub received_to : (k : Kind) (from : Pid) (to : Option Pid) (p : Pid)
    → (let b : Bool = elim k [ kind.Send ↦ true | kind.Receive ↦ false | kind.Print ↦ true ] in b)
    ≡ false
    → is_of k from to p ≡ true → to ≡ Some p
received_to kind.Send from to p receives own = absurd (false≢true (sym receives))
received_to kind.Print from to p receives own = absurd (false≢true (sym receives))
received_to kind.Receive from None p receives own = absurd (false≢true own)
received_to kind.Receive from (Some q) p receives own = ap (λ (x : Pid). Some x) (pid_same q p own)

pub own_at : (streams : List Stream) (p : Pid) (i : ℕ) (e : Event) → AreOwn streams
    → event_at streams p i ≡ Some e → is_own p e ≡ true
own_at [] p i e own at = absurd (none-some e at)
own_at (x ∷ streams) p i e own at =
    elim (pid_eq x.pid p) as (λ b. pid_eq x.pid p ≡ b
    → slice_get (events_in (cond b (Some x) (stream_of streams p))) i ≡ Some e
    → is_own p e ≡ true) [
      | true ↦ λ same at. ap (λ q. is_own q e) (sym (pid_same x.pid p same))
          ∙ all_at (λ d. is_own x.pid d ≡ true) x.events i e own.0 at
      | false ↦ λ other at. own_at streams p i e own.1 at
    ] refl at

-- ANY TWO EVENTS

pub record FitTogether (streams : List Stream) : Type 0 where
  pub rises : (p : Pid) (i : ℕ) (e : Event) → event_at streams p i ≡ Some e
      → e.serial.prev < e.serial.this
  pub grows : (p : Pid) (j i : ℕ) (d e : Event) → j < i → event_at streams p j ≡ Some d
      → event_at streams p i ≡ Some e
      → is_stamp d ≡ true → is_stamp e ≡ true → d.serial.this < e.serial.this
  pub once : (p q : Pid) (i j : ℕ) (d e : Event) → event_at streams p i ≡ Some d
      → event_at streams q j ≡ Some e
      → is_stamp d ≡ false → is_stamp e ≡ false → d.from ≡ e.from → d.serial.this ≡ e.serial.this
      → (p ≡ q) × (i ≡ j)
  pub agree : (p : Pid) (i j : ℕ) (e f : Event) → event_at streams p i ≡ Some e → is_stamp e ≡ false
      → event_at streams e.from j ≡ Some f → is_stamp f ≡ true → f.serial.this ≡ e.serial.this
      → agrees f e ≡ true

-- events that fit in ys fit in xs too, if xs has no others
pub fit_as : (xs ys : List Stream) → ((p : Pid) (i : ℕ) (e : Event) → event_at xs p i ≡ Some e
    → event_at ys p i ≡ Some e) → FitTogether ys → FitTogether xs
fit_as xs ys there fit = record {
  rises = λ p i e at. fit.rises p i e (there p i e at);
  grows = λ p j i d e less at_d at_e.
      fit.grows p j i d e less (there p j d at_d) (there p i e at_e);
  once = λ p q i j d e at_d at_e. fit.once p q i j d e (there p i d at_d) (there q j e at_e);
  agree = λ p i j e f at_e receives at_f. fit.agree p i j e f (there p i e at_e) receives
      (there e.from j f at_f);
}

pub record HasStamp (streams : List Stream) (q : Pid) (v : ℕ) : Type 0 where
  pub index : ℕ
  pub event : Event
  pub at : event_at streams q index ≡ Some event
  pub stamps : is_stamp event ≡ true
  pub count : event.serial.this ≡ v

pub stamp_if : (streams : List Stream) (q : Pid) (v : ℕ) (f : ℕ × Event)
    → stamp_of streams q v ≡ Some f → (s : HasStamp streams q v) × (f.1 ≡ s.event)
stamp_if streams q v f is =
    let found = given_from (own_rule v) q 0 (events_of streams q) f is in
    let g = found.1 in
    let says = cond_some (is_stamp g && g.serial.this == v) (0 + found.0, g) f found.3 in
    let parts = and_parts (is_stamp g) (g.serial.this == v) says.0 in (
      record {
        index = found.0;
        event = g;
        at = found.2;
        stamps = parts.0;
        count = eqb-true g.serial.this v parts.1;
      },
      ap (λ (x : ℕ × Event). x.1) (sym says.1),
    )

pub none_stamped : (streams : List Stream) (q : Pid) (v : ℕ) → stamp_of streams q v ≡ None
    → HasStamp streams q v → ⊥
none_stamped streams q v none s =
    let e = s.event in
    none-some (0 + s.index, e)
    (sym (from_none (own_rule v) q 0 (events_of streams q) none s.index e s.at)
    ∙ ap (λ b. cond b (Some (0 + s.index, e)) None)
    (and_from (is_stamp e) (e.serial.this == v) s.stamps (eq-eqb e.serial.this v s.count)))

record IsStampBefore (es : List Event) (i : ℕ) (g : ℕ × Event) : Type 0 where
  below : g.0 < i
  at : slice_get es g.0 ≡ Some g.1
  stamps : is_stamp g.1 ≡ true

before_later : (es : List Event) (i : ℕ) (g : ℕ × Event) → IsStampBefore es i g
    → IsStampBefore es (suc i) g
before_later es i g b =
    let low = b.below in record { below = omega arith; at = b.at; stamps = b.stamps }

stamp_before_is : (es : List Event) (i : ℕ) (g : ℕ × Event) → stamp_before es i ≡ Some g
    → IsStampBefore es i g
stamp_before_is es zero g h = absurd (none-some g h)
stamp_before_is es (suc i) g h =
    let rest = stamp_before es i in
    elim (slice_get es i) as (λ o. slice_get es i ≡ o
    → (elim o [ None ↦ rest | Some e ↦ cond (is_stamp e) (Some (i, e)) rest ]) ≡ Some g
    → IsStampBefore es (suc i) g) [
      | None ↦ λ _ h. before_later es i g (stamp_before_is es i g h)
      | Some e ↦ λ at h. elim (is_stamp e) as (λ b. is_stamp e ≡ b
          → cond b (Some (i, e)) rest ≡ Some g → IsStampBefore es (suc i) g) [
            | true ↦ λ stamps h.
                let here : IsStampBefore es (suc i) (i, e) =
                record { below = omega arith; at = at; stamps = stamps } in
                subst (IsStampBefore es (suc i)) (same_Some (i, e) g h) here
            | false ↦ λ _ h. before_later es i g (stamp_before_is es i g h)
          ] refl h
    ] refl h

-- a rule that gives a fault only if its test fails gives none if the test passes
stands_not : {X : Type 0} (b : Bool) (y x : X) → b ≡ true → cond b None (Some y) ≡ Some x → ⊥
stands_not true y x is h = none-some x h
stands_not false y x is h = absurd (false≢true is)

or_if : (a b : Bool) → (a ≡ false → b ≡ true) → (a || b) ≡ true
or_if true b h = refl
or_if false b h = h refl

module _ (streams : List Stream) (rising : IsRising (pids_of streams)) (fit : FitTogether streams)
  where
    nowhere : (rule : Rule PairFault) → ((p : Pid) (i : ℕ) (e : Event) (x : PairFault)
        → event_at streams p i ≡ Some e → rule p i e ≡ Some x → ⊥) → first rule streams ≡ None
    nowhere rule never = elim (first rule streams) as (λ o. first rule streams ≡ o → o ≡ None) [
      | None ↦ λ _. refl
      | Some x ↦ λ is. let g = given_at rule streams x rising is in
          absurd (never g.pid g.index g.event x g.at g.gives)
    ] refl

    no_prev : (p : Pid) (i : ℕ) (e : Event) (x : PairFault) → event_at streams p i ≡ Some e
        → prev_not_before p i e ≡ Some x → ⊥
    no_prev p i e x at h =
        stands_not (nat_lt e.serial.prev e.serial.this) (fault.PrevNotBefore p i) x
        (lt-ltb e.serial.prev e.serial.this (fit.rises p i e at)) h

    no_fall : (p : Pid) (i : ℕ) (e : Event) (x : PairFault) → event_at streams p i ≡ Some e
        → not_rising streams p i e ≡ Some x → ⊥
    no_fall p i e x at h =
        let less = λ (f : ℕ × Event). nat_lt f.1.serial.this e.serial.this in
        option_and_then_some (λ (f : ℕ × Event). cond (not (is_stamp e) || less f) None
        (Some (fault.NotRising p i f.0)))
        (stamp_before (events_of streams p) i) x h (λ f is rest.
        let b = stamp_before_is (events_of streams p) i f is in
        stands_not (not (is_stamp e) || less f) (fault.NotRising p i f.0) x
        (or_if (not (is_stamp e)) (less f) (λ stamps. lt-ltb f.1.serial.this e.serial.this
        (fit.grows p f.0 i f.1 e b.below b.at at b.stamps (not-false (is_stamp e) stamps)))) rest)

    no_second : (p : Pid) (i : ℕ) (e : Event) (x : PairFault) → event_at streams p i ≡ Some e
        → repeated streams p i e ≡ Some x → ⊥
    no_second p i e x at h =
        let here = λ (y : Pid × ℕ). pid_eq y.0 p && y.1 == i in
        option_and_then_some (λ (y : Pid × ℕ). cond (is_stamp e || here y) None
        (Some (fault.Repeated p i y.0 y.1)))
        (receive_of streams e.from e.serial.this) x h (λ y is rest.
        let g = given_at (got_rule e.from e.serial.this) streams y rising is in
        let says = got_says e.from e.serial.this g.pid g.index g.event y g.gives in
        stands_not (is_stamp e || here y) (fault.Repeated p i y.0 y.1) x
        (or_if (is_stamp e) (here y) (λ receives.
        let same = fit.once g.pid p g.index i g.event e g.at at says.receives receives says.from
        says.count in
        and_from (pid_eq y.0 p) (y.1 == i)
        (ap (λ q. pid_eq q p) (sym says.pid ∙ same.0) ∙ pid_eq-refl p)
        (eq-eqb y.1 i (sym says.index ∙ same.1)))) rest)

    no_other : (p : Pid) (i : ℕ) (e : Event) (x : PairFault) → event_at streams p i ≡ Some e
        → mismatch streams p i e ≡ Some x → ⊥
    no_other p i e x at h =
        option_and_then_some (λ (f : ℕ × Event). cond (is_stamp e || agrees f.1 e) None
        (Some (fault.Mismatch p i e.from f.0)))
        (stamp_of streams e.from e.serial.this) x h (λ f is rest.
        let found = stamp_if streams e.from e.serial.this f is in
        let s = found.0 in
        stands_not (is_stamp e || agrees f.1 e) (fault.Mismatch p i e.from f.0) x
        (or_if (is_stamp e) (agrees f.1 e) (λ receives. ap (λ z. agrees z e) found.1
        ∙ fit.agree p i s.index e s.event at receives s.at s.stamps s.count)) rest)

    next_rule : (rule : Rule PairFault) (rules : List (Rule PairFault)) → first rule streams ≡ None
        → first_rule streams rules ≡ None → first_rule streams (rule ∷ rules) ≡ None
    next_rule rule rules here later =
        ap (λ (o : Option PairFault). let all : Option PairFault =
        elim o [ None ↦ first_rule streams rules | Some f ↦ Some f ] in all) here
        ∙ later

    pub accepted_if : refusal streams ≡ None
    accepted_if =
        next_rule prev_not_before (not_rising streams ∷ repeated streams ∷ mismatch streams ∷ [])
        (nowhere prev_not_before no_prev)
        (next_rule (not_rising streams) (repeated streams ∷ mismatch streams ∷ [])
        (nowhere (not_rising streams) no_fall)
        (next_rule (repeated streams) (mismatch streams ∷ []) (nowhere (repeated streams) no_second)
        (next_rule (mismatch streams) [] (nowhere (mismatch streams) no_other) refl)))

-- WHAT PAIRING ACCEPTS

module _ (streams : List Stream) (ok : IsPaired streams) where
  once_together : (p q : Pid) (i j : ℕ) (d e : Event) → event_at streams p i ≡ Some d
      → event_at streams q j ≡ Some e
      → is_stamp d ≡ false → is_stamp e ≡ false → d.from ≡ e.from → d.serial.this ≡ e.serial.this
      → (p ≡ q) × (i ≡ j)
  once_together p q i j d e at_d at_e receives_d receives_e from count =
      let same = same_Some (p, i) (q, j) (sym (once_place streams ok p i d at_d receives_d)
      ∙ ap (λ x. receive_of streams x d.serial.this) from
      ∙ ap (receive_of streams e.from) count
      ∙ once_place streams ok q j e at_e receives_e) in
      (ap (λ (y : Pid × ℕ). y.0) same, ap (λ (y : Pid × ℕ). y.1) same)

  agree_together : (p : Pid) (i j : ℕ) (e f : Event) → event_at streams p i ≡ Some e
      → is_stamp e ≡ false
      → event_at streams e.from j ≡ Some f → is_stamp f ≡ true → f.serial.this ≡ e.serial.this
      → agrees f e ≡ true
  agree_together p i j e f at_e receives at_f stamps count =
      let stamp : stamp_of streams e.from e.serial.this ≡ Some (j, f) =
      ap (stamp_of streams e.from) (sym count) ∙ stamp_once streams ok e.from j f at_f stamps in
      let passes : (is_stamp e || agrees f e) ≡ true =
      cond_none (is_stamp e || agrees f e) (fault.Mismatch p i e.from j)
      (ap (option_and_then (λ (h : ℕ × Event). cond (is_stamp e || agrees h.1 e) None
      (Some (fault.Mismatch p i e.from h.0)))) (sym stamp)
      ∙ event_none (mismatch streams) streams ok.matched p i e at_e) in
      ap (λ b. b || agrees f e) (sym receives) ∙ passes

  pub fit_together : FitTogether streams
  fit_together = record {
    rises = serial_rises streams ok;
    grows = stamp_counts_rise streams ok;
    once = once_together;
    agree = agree_together;
  }

-- no stamp was found, so the send is hidden
abbrev hides : Pid → Option (ℕ × Event) → Bool
hides q o = elim (source_from q o) [ source.Hidden ↦ true | source.Event p j ↦ false ]

pub sent_if : (streams : List Stream) (e : Event) → is_hidden streams e ≡ false → is_stamp e ≡ false
    → HasStamp streams e.from e.serial.this
sent_if streams e seen receives =
    let shown : hides e.from (stamp_of streams e.from e.serial.this) ≡ false =
    ap (λ b. cond b false (hides e.from (stamp_of streams e.from e.serial.this))) (sym receives)
    ∙ seen in
    elim (stamp_of streams e.from e.serial.this) as (λ o. stamp_of streams e.from e.serial.this ≡ o
    → hides e.from o ≡ false → HasStamp streams e.from e.serial.this) [
      | None ↦ λ _ h. absurd (false≢true (sym h))
      | Some f ↦ λ is _. (stamp_if streams e.from e.serial.this f is).0
    ] refl shown

pub seen_if : (streams : List Stream) (e : Event) → (is_stamp e ≡ false
    → HasStamp streams e.from e.serial.this) → is_hidden streams e ≡ false
seen_if streams e sent = elim (is_stamp e) as (λ b. is_stamp e ≡ b
    → cond b false (hides e.from (stamp_of streams e.from e.serial.this)) ≡ false) [
      | true ↦ λ _. refl
      | false ↦ λ receives. elim (stamp_of streams e.from e.serial.this)
          as (λ o. stamp_of streams e.from e.serial.this ≡ o → hides e.from o ≡ false) [
            | None ↦ λ none. absurd (none_stamped streams e.from e.serial.this none (sent receives))
            | Some f ↦ λ _. refl
          ] refl
    ] refl
