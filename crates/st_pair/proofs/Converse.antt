-- A receive's source is a send exactly if the send's receiver is that receive: the counts of a
-- process's sends and prints rise, so at most one has the receive's count, and no other receive
-- has its sender and count.
use Rattle.std.proofs.Common.{◌≡◌, ℕ, ◌+◌, ◌<◌, ◌≤◌, ◌==◌, ◌&&◌, ◌||◌, zero, suc, nat_lt, Bool}
use Rattle.std.proofs.Common.{true, false, not, cond, List, [], ◌∷◌, Option, Some, None, slice_get}
use Rattle.std.proofs.Common.{option_and_then, inl, inr, refl, sym, ◌∙◌, ap, subst, arith}
use Rattle.std.proofs.Common.{if◌then◌else◌}
use Rattle.std.proofs.lemmas.Bool.{eqb-true, eq-eqb, ltb-true, and_parts, and_from, cases_lt}
use Rattle.std.proofs.lemmas.Option.{same_Some, none-some}
use Rattle.st_core.specs.declared.types.Pid.{Pid}
use Rattle.st_core.specs.declared.types.Kind.TheVariants as kind
use Rattle.st_core.specs.declared.types.Event.{Event}
use Rattle.st_core.specs.Pid.{pid_eq, IsRising}
use Rattle.st_core.specs.Run.{Stream, pids_of}
use Rattle.st_core.specs.Streams.{events_of}
use Rattle.st_core.proofs.ForCallers.{pid_eq-true, some_if}
use Rattle.st_pair.specs.declared.answer.PairFault.TheVariants as fault
use Rattle.st_pair.specs.declared.answer.Source.{Source}
use Rattle.st_pair.specs.declared.answer.Source.TheVariants as source
use Rattle.st_pair.specs.Places.{event_at, is_stamp, first_from, first, or_else}
use Rattle.st_pair.specs.Pairing.{stamp_before, stamp_of, receive_of, is_send, agrees, not_rising}
use Rattle.st_pair.specs.Pairing.{mismatch, source_of, source_at, receiver_at}
use Rattle.st_pair.proofs.AcceptedEvents.{Rule, IsPaired, event_none, from_none, got_rule}
use Rattle.st_pair.proofs.AcceptedEvents.{once_place, cond_none}
use Rattle.st_pair.proofs.Firsts.{is_at, events_in}
use Rattle.st_pair.proofs.OwnStamps.{own_rule}
use Rattle.st_pair.proofs.Stamps.{stamp_at, before_more}

-- WHERE A RULE GAVE SOMETHING

-- an event at which the rule gives x
pub record IsGiven {X : Type 0} (rule : Rule X) (streams : List Stream) (x : X) : Type 0 where
  pub pid : Pid
  pub index : ℕ
  pub event : Event
  pub at : event_at streams pid index ≡ Some event
  pub gives : rule pid index event ≡ Some x

pub given_from : {X : Type 0} (rule : Rule X) (p : Pid) (k : ℕ) (es : List Event) (x : X)
    → first_from rule p k es ≡ Some x → (j : ℕ) × (e : Event) × (slice_get es j ≡ Some e)
    × (rule p (k + j) e ≡ Some x)
given_from {X} rule p k [] x h = absurd (none-some x h)
given_from {X} rule p k (e ∷ es) x h = elim (rule p k e) as (λ given. rule p k e ≡ given
    → or_else given (first_from rule p (k + 1) es) ≡ Some x
    → (j : ℕ) × (d : Event) × (slice_get (e ∷ es) j ≡ Some d) × (rule p (k + j) d ≡ Some x)) [
      | None ↦ λ is h.
          let rest = given_from rule p (k + 1) es x h in
          let number : k + 1 + rest.0 ≡ k + suc rest.0 = omega arith in
          (suc rest.0, rest.1, rest.2, ap (λ n. rule p n rest.1) (sym number) ∙ rest.3)
      | Some y ↦ λ is h. let number : k + 0 ≡ k = omega arith in
          (0, e, refl, ap (λ n. rule p n e) number ∙ is ∙ h)
    ] refl h

numbered : (streams : List Stream) (k : ℕ) (s : Stream) → slice_get streams k ≡ Some s
    → slice_get (pids_of streams) k ≡ Some s.pid
numbered [] k s at = absurd (none-some s at)
numbered (x ∷ streams) zero s at = ap (λ (y : Stream). Some y.pid) (same_Some x s at)
numbered (x ∷ streams) (suc k) s at = numbered streams k s at

-- the number of the stream in which a rule gives x first
pub first_in : {X : Type 0} (rule : Rule X) (streams : List Stream) (x : X)
    → first rule streams ≡ Some x
    → (k : ℕ) × (s : Stream) × (slice_get streams k ≡ Some s)
    × (first_from rule s.pid 0 s.events ≡ Some x)
first_in {X} rule [] x h = absurd (none-some x h)
first_in {X} rule (s ∷ streams) x h = elim (first_from rule s.pid 0 s.events)
    as (λ given. first_from rule s.pid 0 s.events ≡ given
    → or_else given (first rule streams) ≡ Some x
    → (k : ℕ) × (t : Stream) × (slice_get (s ∷ streams) k ≡ Some t)
    × (first_from rule t.pid 0 t.events ≡ Some x)) [
      | None ↦ λ is h. let rest = first_in rule streams x h in (suc rest.0, rest.1, rest.2, rest.3)
      | Some y ↦ λ is h. (0, s, refl, is ∙ h)
    ] refl h

pub given_at : {X : Type 0} (rule : Rule X) (streams : List Stream) (x : X)
    → IsRising (pids_of streams)
    → first rule streams ≡ Some x → IsGiven rule streams x
given_at {X} rule streams x rising h =
    let found = first_in rule streams x h in
    let s = found.1 in
    let here = given_from rule s.pid 0 s.events x found.3 in
    let stands = is_at streams found.0 s.pid rising (numbered streams found.0 s found.2) in
    let same : stands.stream ≡ s = same_Some stands.stream s (sym stands.at ∙ found.2) in
    let events : events_of streams s.pid ≡ s.events = ap events_in stands.found
    ∙ ap (λ (t : Stream). t.events) same in
    let number : 0 + here.0 ≡ here.0 = omega arith in
    record {
      pid = s.pid;
      index = here.0;
      event = here.1;
      at = ap (λ (es : List Event). slice_get es here.0) events ∙ here.2;
      gives = ap (λ n. rule s.pid n here.1) (sym number) ∙ here.3;
    }

-- THE COUNTS OF A PROCESS RISE

-- the last send or print before index i counts at least n
record IsHigh (es : List Event) (i n : ℕ) : Type 0 where
  stamp : ℕ × Event
  is : stamp_before es i ≡ Some stamp
  above : n ≤ stamp.1.serial.this

high_kept : (es : List Event) (i n : ℕ) → stamp_before es (suc i) ≡ stamp_before es i
    → IsHigh es i n
    → IsHigh es (suc i) n
high_kept es i n same h = record { stamp = h.stamp; is = same ∙ h.is; above = h.above }

-- WHAT A RULE SAYS OF ITS EVENT

pub some_unless : {X : Type 0} (b : Bool) (x y : X) → cond b None (Some x) ≡ Some y
    → (b ≡ false) × (x ≡ y)
some_unless true x y h = absurd (none-some y h)
some_unless false x y h = (refl, same_Some x y h)

under_if : {X : Type 0} (b : Bool) (o : Option X) (y : X) → cond b o None ≡ Some y
    → (b ≡ true) × (o ≡ Some y)
under_if true o y h = (refl, h)
under_if false o y h = absurd (none-some y h)

under_unless : {X : Type 0} (b : Bool) (o : Option X) (y : X) → cond b None o ≡ Some y
    → (b ≡ false) × (o ≡ Some y)
under_unless true o y h = absurd (none-some y h)
under_unless false o y h = (refl, h)

pub record SaysStamp (this n : ℕ) (e : Event) (g : ℕ × Event) : Type 0 where
  pub stamps : is_stamp e ≡ true
  pub count : e.serial.this ≡ this
  pub index : n ≡ g.0
  pub event : e ≡ g.1

pub own_says : (this : ℕ) (p : Pid) (n : ℕ) (e : Event) (g : ℕ × Event)
    → own_rule this p n e ≡ Some g
    → SaysStamp this n e g
own_says this p n e g h =
    let parts = some_if (is_stamp e && e.serial.this == this) (n, e) g h in
    let tests = and_parts (is_stamp e) (e.serial.this == this) parts.0 in
    record {
      stamps = tests.0;
      count = eqb-true e.serial.this this tests.1;
      index = ap (λ (x : ℕ × Event). x.0) parts.1;
      event = ap (λ (x : ℕ × Event). x.1) parts.1;
    }

pub record SaysReceive (q : Pid) (this : ℕ) (p : Pid) (i : ℕ) (e : Event) (x : Pid × ℕ) : Type 0
  where
    pub receives : is_stamp e ≡ false
    pub from : e.from ≡ q
    pub count : e.serial.this ≡ this
    pub pid : p ≡ x.0
    pub index : i ≡ x.1

pub got_says : (q : Pid) (this : ℕ) (p : Pid) (i : ℕ) (e : Event) (x : Pid × ℕ)
    → got_rule q this p i e ≡ Some x
    → SaysReceive q this p i e x
got_says q this p i e x h =
    let rest = under_unless (is_stamp e)
    (cond (pid_eq e.from q && e.serial.this == this) (Some (p, i)) None) x h in
    let parts = some_if (pid_eq e.from q && e.serial.this == this) (p, i) x rest.1 in
    let tests = and_parts (pid_eq e.from q) (e.serial.this == this) parts.0 in
    record {
      receives = rest.0;
      from = pid_eq-true e.from q tests.0;
      count = eqb-true e.serial.this this tests.1;
      pid = ap (λ (y : Pid × ℕ). y.0) parts.1;
      index = ap (λ (y : Pid × ℕ). y.1) parts.1;
    }

module _ (streams : List Stream) (rising : first (not_rising streams) streams ≡ None) (p : Pid)
  where
    rises_at : (i : ℕ) (e : Event) (g : ℕ × Event) → event_at streams p i ≡ Some e
        → is_stamp e ≡ true
        → stamp_before (events_of streams p) i ≡ Some g → g.1.serial.this < e.serial.this
    rises_at i e g at stamp before =
        let test : Bool → Bool = λ b. not b || nat_lt g.1.serial.this e.serial.this in
        let given =
        ap (option_and_then (λ (f : ℕ × Event).
        if not (is_stamp e) || nat_lt f.1.serial.this e.serial.this then None
        else Some (fault.NotRising p i f.0))) (sym before)
        ∙ event_none (not_rising streams) streams rising p i e at in
        let holds = cond_none (test (is_stamp e)) (fault.NotRising p i g.0) given in
        ltb-true g.1.serial.this e.serial.this (ap test (sym stamp) ∙ holds)

    high : (i j : ℕ) (d : Event) → j < i → event_at streams p j ≡ Some d → is_stamp d ≡ true
        → IsHigh (events_of streams p) i d.serial.this
    high zero j d less at stamp = absurd (omega arith)
    high (suc i) j d less at stamp = elim (cases_lt j i) [
      | inl below ↦
          let before = high i j d below at stamp in
          elim (event_at streams p i) as (λ o. event_at streams p i ≡ o
          → IsHigh (events_of streams p) (suc i) d.serial.this) [
            | None ↦ λ none. high_kept (events_of streams p) i d.serial.this
                (ap (λ (o : Option Event). elim o [
                  | None ↦ stamp_before (events_of streams p) i
                  | Some f ↦ if is_stamp f then Some (i, f) else stamp_before (events_of streams p)
                      i
                ]) none) before
            | Some x ↦ λ there. elim (is_stamp x)
                as (λ b. is_stamp x ≡ b → IsHigh (events_of streams p) (suc i) d.serial.this) [
                  | true ↦ λ stamps.
                      let low = before.above in
                      let more = rises_at i x before.stamp there stamps before.is in
                      record {
                        stamp = (i, x);
                        is = before_more (events_of streams p) i x there true stamps;
                        above = omega arith;
                      }
                  | false ↦ λ receives. high_kept (events_of streams p) i d.serial.this
                      (before_more (events_of streams p) i x there false receives) before
                ] refl
          ] refl
      | inr above ↦
          let same : j ≡ i = omega arith in
          let there : event_at streams p i ≡ Some d =
          subst (λ n. event_at streams p n ≡ Some d) same at in
          record {
            stamp = (i, d);
            is = before_more (events_of streams p) i d there true stamp;
            above = omega arith;
          }
    ]

    -- an earlier send or print has a lower count
    pub counts_rise : (j i : ℕ) (d e : Event) → j < i → event_at streams p j ≡ Some d
        → event_at streams p i ≡ Some e
        → is_stamp d ≡ true → is_stamp e ≡ true → d.serial.this < e.serial.this
    counts_rise j i d e less at_d at_e stamp_d stamp_e =
        let before = high i j d less at_d stamp_d in
        let low = before.above in
        let more = rises_at i e before.stamp at_e stamp_e before.is in
        omega arith

module _ (streams : List Stream) (rising : first (not_rising streams) streams ≡ None) (p : Pid)
  where
    stamp_there : (j : ℕ) (f : Event) → event_at streams p j ≡ Some f → is_stamp f ≡ true
        → stamp_of streams p f.serial.this ≡ None → ⊥
    stamp_there j f at stamp none =
        let this = f.serial.this in
        let place : ℕ × Event = (0 + j, f) in
        let given = from_none (own_rule this) p 0 (events_of streams p) none j f at in
        let test = and_from (is_stamp f) (f.serial.this == this) stamp
        (eq-eqb f.serial.this this refl) in
        none-some place (sym given ∙ ap (λ (b : Bool). cond b (Some place) None) test)

    -- a send or print is the only one with its count
    pub stamp_alone : (j : ℕ) (f : Event) → event_at streams p j ≡ Some f → is_stamp f ≡ true
        → stamp_of streams p f.serial.this ≡ Some (j, f)
    stamp_alone j f at stamp = elim (stamp_of streams p f.serial.this)
        as (λ o. stamp_of streams p f.serial.this ≡ o → o ≡ Some (j, f)) [
          | None ↦ λ none. absurd (stamp_there j f at stamp none)
          | Some g ↦ λ is.
              let found = given_from (own_rule f.serial.this) p 0 (events_of streams p) g is in
              let says = own_says f.serial.this p (0 + found.0) found.1 g found.3 in
              let count = says.count in
              let number : 0 + found.0 ≡ found.0 = omega arith in
              let same : found.0 ≡ j = elim (cases_lt found.0 j) [
                | inl below ↦ let rise =
                    counts_rise streams rising p found.0 j found.1 f below found.2 at
                    says.stamps stamp in
                    absurd (omega arith)
                | inr above ↦ elim (cases_lt j found.0) [
                  | inl below ↦ let rise =
                      counts_rise streams rising p j found.0 f found.1 below at found.2
                      stamp says.stamps in
                      absurd (omega arith)
                  | inr least ↦ omega arith
                ]
              ] in
              let index : g.0 ≡ j = sym says.index ∙ number ∙ same in
              let event : g.1 ≡ f = sym says.event
              ∙ same_Some found.1 f (sym found.2 ∙ ap (event_at streams p) same ∙ at) in
              λ k. Some (index k, event k)
        ] refl

module _ (streams : List Stream) (ok : IsPaired streams) (p : Pid) where
  -- an earlier send or print has a lower count if no reason holds
  pub stamp_counts_rise : (j i : ℕ) (d e : Event) → j < i → event_at streams p j ≡ Some d
      → event_at streams p i ≡ Some e
      → is_stamp d ≡ true → is_stamp e ≡ true → d.serial.this < e.serial.this
  stamp_counts_rise = counts_rise streams ok.rising p

  pub stamp_once : (j : ℕ) (f : Event) → event_at streams p j ≡ Some f → is_stamp f ≡ true
      → stamp_of streams p f.serial.this ≡ Some (j, f)
  stamp_once = stamp_alone streams ok.rising p

-- BOTH DIRECTIONS

abbrev pub source_by : List Stream → Event → Option Source
source_by streams e = if is_stamp e then None else Some (source_of streams e)

abbrev pub source_from : Pid → Option (ℕ × Event) → Source
source_from q o = elim o [ None ↦ source.Hidden | Some f ↦ source.Event q f.0 ]

abbrev receiver_by : List Stream → Pid → Event → Option (Pid × ℕ)
receiver_by streams q f = if is_send f then receive_of streams q f.serial.this else None

pub send_stamps : (f : Event) → is_send f ≡ true → is_stamp f ≡ true
send_stamps f h = elim f.kind as
    (λ k. (let b : Bool = elim k [ kind.Send ↦ true | kind.Receive ↦ false | kind.Print ↦ false ] in
    b) ≡ true
    → (let b : Bool = elim k [ kind.Send ↦ true | kind.Receive ↦ false | kind.Print ↦ true ] in b)
    ≡ true) [
      | kind.Send ↦ λ is. refl
      | kind.Receive ↦ λ is. is
      | kind.Print ↦ λ is. refl
    ] h

module _ (streams : List Stream) (rising : IsRising (pids_of streams)) (ok : IsPaired streams)
    (p : Pid) (i : ℕ)
    (q : Pid) (j : ℕ) where
  paired_back : (f : Event) → event_at streams q j ≡ Some f → receiver_by streams q f ≡ Some (p, i)
      → source_at streams p i ≡ Some (source.Event q j)
  paired_back f at h =
      let parts = under_if (is_send f) (receive_of streams q f.serial.this) (p, i) h in
      let given = given_at (got_rule q f.serial.this) streams (p, i) rising parts.1 in
      let e = given.event in
      let says = got_says q f.serial.this given.pid given.index e (p, i) given.gives in
      let there : event_at streams p i ≡ Some e =
      subst (λ (x : Pid). event_at streams x i ≡ Some e) says.pid
      (subst (λ (n : ℕ). event_at streams given.pid n ≡ Some e) says.index given.at) in
      let sent : stamp_of streams e.from e.serial.this ≡ Some (j, f) =
      ap (λ (x : Pid). stamp_of streams x e.serial.this) says.from
      ∙ ap (stamp_of streams q) says.count
      ∙ stamp_once streams ok q j f at (send_stamps f parts.0) in
      ap (option_and_then (source_by streams)) there
      ∙ ap (λ (b : Bool). cond b None (Some (source_of streams e))) says.receives
      ∙ ap (λ (o : Option (ℕ × Event)). Some (source_from e.from o)) sent
      ∙ ap (λ (x : Pid). Some (source.Event x j)) says.from

  pub source_from_receiver : receiver_at streams q j ≡ Some (p, i)
      → source_at streams p i ≡ Some (source.Event q j)
  source_from_receiver h = elim (event_at streams q j) as (λ o. event_at streams q j ≡ o
      → option_and_then (receiver_by streams q) o ≡ Some (p, i)
      → source_at streams p i ≡ Some (source.Event q j)) [
        | None ↦ λ none given. absurd (none-some (p, i) given)
        | Some f ↦ λ at given. paired_back f at given
      ] refl h

  sent_to : (e : Event) (f : ℕ × Event) → event_at streams p i ≡ Some e → is_stamp e ≡ false
      → stamp_of streams e.from e.serial.this ≡ Some f
      → receiver_at streams e.from f.0 ≡ Some (p, i)
  sent_to e f at receives is =
      let test : Bool → Bool = λ b. b || agrees f.1 e in
      let given = ap (option_and_then (λ (g : ℕ × Event). if is_stamp e || agrees g.1 e then None
      else Some (fault.Mismatch p i e.from g.0))) (sym is)
      ∙ event_none (mismatch streams) streams ok.matched p i e at in
      let agree : agrees f.1 e ≡ true = ap test (sym receives)
      ∙ cond_none (test (is_stamp e)) (fault.Mismatch p i e.from f.0) given in
      let sends = (and_parts (is_send f.1) _ agree).0 in
      let there = stamp_at streams e.from e.serial.this f is in
      let found = given_from (own_rule e.serial.this) e.from 0 (events_of streams e.from) f is in
      let says = own_says e.serial.this e.from (0 + found.0) found.1 f found.3 in
      let count : f.1.serial.this ≡ e.serial.this =
      ap (λ (x : Event). x.serial.this) (sym says.event) ∙ says.count in
      ap (option_and_then (receiver_by streams e.from)) there
      ∙ ap (λ (b : Bool). cond b (receive_of streams e.from f.1.serial.this) None) sends
      ∙ ap (receive_of streams e.from) count ∙ once_place streams ok p i e at receives

  paired_forth : (e : Event) → event_at streams p i ≡ Some e
      → source_by streams e ≡ Some (source.Event q j)
      → receiver_at streams q j ≡ Some (p, i)
  paired_forth e at h =
      let parts = some_unless (is_stamp e) (source_of streams e) (source.Event q j) h in
      elim (stamp_of streams e.from e.serial.this) as (λ o. stamp_of streams e.from e.serial.this
      ≡ o
      → source_from e.from o ≡ source.Event q j → receiver_at streams q j ≡ Some (p, i)) [
        | None ↦ λ none same. absurd (cc)
        | Some f ↦ λ is same.
            let from : e.from ≡ q = cc in
            let index : f.0 ≡ j = cc in
            subst (λ (x : Pid). receiver_at streams x j ≡ Some (p, i)) from
            (subst (λ (n : ℕ). receiver_at streams e.from n ≡ Some (p, i)) index
            (sent_to e f at parts.0 is))
      ] refl parts.1

  pub receiver_from_source : source_at streams p i ≡ Some (source.Event q j)
      → receiver_at streams q j ≡ Some (p, i)
  receiver_from_source h = elim (event_at streams p i) as (λ o. event_at streams p i ≡ o
      → option_and_then (source_by streams) o ≡ Some (source.Event q j)
      → receiver_at streams q j ≡ Some (p, i)) [
        | None ↦ λ none given. absurd (none-some (source.Event q j) given)
        | Some e ↦ λ at given. paired_forth e at given
      ] refl h
